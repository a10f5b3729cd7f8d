mod EngineLemmas
mod NamingLemmas
