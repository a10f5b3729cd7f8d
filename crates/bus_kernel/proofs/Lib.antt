pub mod TablesLemmas
