-- The subcommand that a parse met, from what its getters answer.
use Rattle.std.proofs.Common.{◌≡◌, ℕ, List, [], Option, Some, None, Result, Ok, option_map, unwrap_or, ap, sym, ◌∙◌, subst, true, refl}
use Rattle.std.specs.Str.Parse.{ParsesUnsigned}
use Rattle.std.specs.Prelude.{Box, IfSome}
use Rattle.std.specs.Box.{box_value}
use Rattle.clap.specs.Words.{ReadsOne, Row, Text, first_of, first_value, is_simple, one_of, one_text, rows_of}
use Rattle.clap.specs.Matches.{subcommand_name_of, found_of, matched_of, raw_values}
use Rattle.clap.specs.Simple.{subcommand_rows, subcommand_rows_of}
use Rattle.clap.specs.declared.parser.matches.ArgMatches.{ArgMatches}
use Rattle.clap.specs.declared.parser.matches.ArgMatches.TheViews.{out-ArgMatches, out-SubCommand}
use Rattle.clap.specs.declared.parser.matches.SubCommand.{SubCommand}
use Rattle.clap.proofs.WalkLemmas.{first_value-rows, one_text-rows, raw_values-rows}
use Rattle.dtman_words.specs.CommandLine.{IsMet, IsNumber, Meets, texts_of}
use Rattle.dtman_words.specs.declared.subcommand.Command.{Command}
use Rattle.dtman_words.specs.Grammar.{dtman}

pairs : {Z : Type 0} (o : Option (Box SubCommand Z)) (name : Text) (rows : List Row)
    → Some name ≡ option_map (λ b. (out-SubCommand (box_value b)).name.now) o
    → Some rows ≡ option_map (λ p. p.1) (subcommand_rows o)
    → subcommand_rows o ≡ Some (name, rows)
pairs None name rows e f = cc
pairs (Some b) name rows e f = cc

-- its name and its rows
pub met : (m : ArgMatches) (name : Text) (rows : List Row)
    → Some name ≡ subcommand_name_of m
    → Some rows ≡ option_map (λ p. p.1) (subcommand_rows (out-ArgMatches m).subcommand)
    → subcommand_rows_of m ≡ Some (name, rows)
met m name rows e f = pairs (out-ArgMatches m).subcommand name rows e f

-- the subcommand of a word, as its arm reads it
pub meets : (m : ArgMatches) (name word : Text) (rows : List Row) (read : Option Command)
    → Some name ≡ subcommand_name_of m
    → Some rows ≡ option_map (λ p. p.1) (subcommand_rows (out-ArgMatches m).subcommand)
    → name ≡ word → IfSome read (λ command. IsMet command word rows) → IfSome read (λ command. Meets command (subcommand_rows_of m))
meets m name word rows None e f is h = tt
meets m name word rows (Some command) e f is h = record {
  name = name;
  rows = rows;
  given = met m name rows e f;
  is_met = subst (λ (n : Text). IsMet command n rows) (sym is) h;
}

-- a value of it
pub value : (m : ArgMatches) (id text : Text) → Some text ≡ first_value (found_of m) id → first_of id (rows_of (found_of m)) ≡ Some text
value m id text e = sym (e ∙ first_value-rows (found_of m) id)

-- no value of it
pub no_value : (m : ArgMatches) (id : Text) → None ≡ first_value (found_of m) id → first_of id (rows_of (found_of m)) ≡ None
no_value m id e = sym (e ∙ first_value-rows (found_of m) id)

-- the number that was read of it
pub number : {E : Type 0} (gives : Text → Result ℕ E → Type 0) (m : ArgMatches) (id : Text) (n : ℕ) (read : Option ℕ)
    → ((t : Text) → gives t (Ok n) → ParsesUnsigned {E = E} 8 10 t (Ok n))
    → read ≡ Some n → (one_text (found_of m) id ≡ None → read ≡ None)
    → ((t : Text) → one_text (found_of m) id ≡ Some t → ReadsOne gives t read)
    → IsNumber (one_of id (rows_of (found_of m))) n
number gives m id n read parses is none some = subst (λ (o : Option Text). IsNumber o n) (one_text-rows (found_of m) id) (go (one_text (found_of m) id) none some)
  where
    go : (o : Option Text) → (o ≡ None → read ≡ None)
        → ((t : Text) → o ≡ Some t → ReadsOne gives t read) → IsNumber o n
    go None none some =
        let bad : Some n ≡ None = sym is ∙ none refl in
        cc
    go (Some t) none some =
        let parsed = parses t (subst (λ (r : Option ℕ). ReadsOne gives t r) is (some t refl)) in
        (parsed.0.0, parsed.1)

pub dtman_is_simple : is_simple dtman ≡ true
unfolding dtman
dtman_is_simple = refl

-- all values of it
pub all_values : (m : ArgMatches) (id : Text) (texts : List Text) → Some texts ≡ option_map raw_values (matched_of (found_of m) id) → texts ≡ texts_of id (rows_of (found_of m))
all_values m id texts e = ap (λ (o : Option (List Text)). unwrap_or o []) (e ∙ raw_values-rows (found_of m) id)

-- no value of it at all
pub no_values : (m : ArgMatches) (id : Text) → None ≡ option_map raw_values (matched_of (found_of m) id) → [] ≡ texts_of id (rows_of (found_of m))
no_values m id e = ap (λ (o : Option (List Text)). unwrap_or o []) (e ∙ raw_values-rows (found_of m) id)
