-- What a subcommand says, by the definition of the command line and the words.
use Rattle.std.specs.Prelude.{◌≡◌, ◌≤◌, ℕ, Bool, false, true, List, [], Option, Some, None, codes, map, unwrap_or}
use Rattle.std.specs.Borrow.{Bor}
use Rattle.std.specs.Str.{bytes_eq}
use Rattle.std.specs.Str.Parse.{IsNumeral, digits_value, without_leading_plus}
use Rattle.bus_manager.specs.Workers.{most_workers}
use Rattle.clap.specs.Words.{Row, Text, all_of, count_of, first_of, one_of, subcommand_of}
use Rattle.dtman_words.specs.declared.subcommand.Command.{Command}
use Rattle.dtman_words.specs.declared.subcommand.Command.TheVariants.{Compile, Preprocess, Overlay, Dump, Plan, Replay, Probe, Why, Needs, Drivers, Trace, Find, Map, Who, Check, Diff, Get, Listing, Set, Format, Serve, Explain}
use Rattle.dtman_words.specs.declared.subcommand.Board.{Board}
use Rattle.dtman_words.specs.declared.subcommand.Choice.{Choice}
use Rattle.dtman_words.specs.declared.subcommand.Choice.TheVariants.{AsNeeded, Always, Never}
use Rattle.dtman_words.specs.declared.subcommand.Definitions.{Definitions}
use Rattle.dtman_words.specs.declared.subcommand.Formatting.{Formatting}
use Rattle.dtman_words.specs.declared.subcommand.Inspection.{Inspection}
use Rattle.dtman_words.specs.declared.subcommand.Links.{Links}
use Rattle.dtman_words.specs.declared.subcommand.Picture.{Picture}
use Rattle.dtman_words.specs.declared.subcommand.Preprocessing.{Preprocessing}
use Rattle.dtman_words.specs.declared.subcommand.Language.{Language}
use Rattle.dtman_words.specs.declared.subcommand.Language.TheVariants.{Profile, Dtc}
use Rattle.dtman_words.specs.Grammar.{dtman}

-- whether an option without a value was given
abbrev pub is_on : Option Text → Bool
is_on None = false
is_on (Some text) = bytes_eq text (codes "true")

-- the number that clap's number parser reads of an option's text
abbrev pub IsNumber : Option Text → ℕ → Type 0
IsNumber None n = ⊥
IsNumber (Some text) n = IsNumeral 10 (without_leading_plus text) × (n ≡ digits_value 10 (without_leading_plus text))

-- so many workers were asked for, as many as there may be
abbrev pub AreWorkers : ℕ → List Row → Type 0
AreWorkers n rows = IsNumber (one_of (codes "workers") rows) n × (1 ≤ n) × (n ≤ most_workers)

-- so many, or none were asked for
abbrev pub AreAsked : Option ℕ → List Row → Type 0
AreAsked None rows = first_of (codes "workers") rows ≡ None
AreAsked (Some n) rows = AreWorkers n rows

-- the text of an argument that may be left out
abbrev pub IsText : Option (Bor Text) → Text → List Row → Type 0
IsText None id rows = first_of id rows ≡ None
IsText (Some text) id rows = first_of id rows ≡ Some text.now

-- the texts of an option that may be given again and again, in their order
abbrev pub texts_of : Text → List Row → List Text
texts_of id rows = unwrap_or (all_of id rows) []

-- dtc's language is asked for, with all folders that are named, or the profile is
abbrev pub IsLanguage : Language → List Row → Type 0
IsLanguage Profile rows = is_on (first_of (codes "dtc") rows) ≡ false
IsLanguage (Dtc folders) rows =
    (is_on (first_of (codes "dtc") rows) ≡ true) × (map (λ folder. folder.now) folders.items ≡ texts_of (codes "include") rows)

-- what a source is preprocessed with, all that is named
abbrev pub AreDefinitions : Definitions → List Row → Type 0
AreDefinitions definitions rows =
    (map (λ folder. folder.now) definitions.folders.items ≡ texts_of (codes "include-dir") rows)
    × (map (λ define. define.now) definitions.defines.items ≡ texts_of (codes "define") rows)
    × (map (λ file. file.now) definitions.preincluded.items ≡ texts_of (codes "preinclude") rows)

-- whether it is: that it isn't counts where both are asked for
abbrev pub IsChoice : Choice → List Row → Type 0
IsChoice Never rows = is_on (first_of (codes "no-cpp") rows) ≡ true
IsChoice Always rows = (is_on (first_of (codes "no-cpp") rows) ≡ false) × (is_on (first_of (codes "cpp") rows) ≡ true)
IsChoice AsNeeded rows = (is_on (first_of (codes "no-cpp") rows) ≡ false) × (is_on (first_of (codes "cpp") rows) ≡ false)

abbrev pub IsPreprocessing : Preprocessing → List Row → Type 0
IsPreprocessing preprocessing rows = IsChoice preprocessing.choice rows × AreDefinitions preprocessing.definitions rows

-- whose links are asked for, if any are, and whether strictly
abbrev pub IsLinks : Links → List Row → Type 0
IsLinks links rows = IsText links.name (codes "links") rows × (links.strict ≡ is_on (first_of (codes "strict") rows))

-- the files of the board that is asked about, and whose links count
abbrev pub IsBoard : Board → List Row → Type 0
IsBoard board rows =
    (first_of (codes "BLOB") rows ≡ Some board.blob.now) × (first_of (codes "DRIVERS") rows ≡ Some board.drivers.now) × IsLinks board.links rows

-- what is to be drawn, and of which device, if of one
abbrev pub IsPicture : Picture → List Row → Type 0
IsPicture picture rows =
    (picture.dot ≡ is_on (first_of (codes "dot") rows)) × (picture.html ≡ is_on (first_of (codes "html") rows)) × IsText picture.of (codes "of") rows

-- which checks are to warn and to be errors, as often as they are named
abbrev pub AreSelected : Inspection → List Row → Type 0
AreSelected inspection rows =
    (map (λ check. check.now) inspection.warnings.items ≡ texts_of (codes "warning") rows)
    × (map (λ check. check.now) inspection.errors.items ≡ texts_of (codes "error") rows)

-- what is checked, and how its mistakes are told
abbrev pub IsInspection : Inspection → List Row → Type 0
IsInspection inspection rows =
    (map (λ path. path.now) inspection.inputs.items ≡ texts_of (codes "IN") rows)
    × (map (λ folder. folder.now) inspection.folders.items ≡ texts_of (codes "include") rows)
    × IsPreprocessing inspection.preprocessing rows
    × AreSelected inspection rows × IsText inspection.known (codes "known") rows
    × (inspection.quiet ≡ count_of (codes "quiet") rows)
    × (inspection.json ≡ is_on (first_of (codes "json") rows)) × (inspection.learn ≡ is_on (first_of (codes "learn") rows))

-- how a source is to be laid out, and what becomes of it
abbrev pub IsFormatting : Formatting → List Row → Type 0
IsFormatting formatting rows =
    (first_of (codes "IN") rows ≡ Some formatting.source.now)
    × (formatting.check ≡ is_on (first_of (codes "check") rows)) × (formatting.diff ≡ is_on (first_of (codes "diff") rows))
    × (formatting.hex ≡ is_on (first_of (codes "hex") rows)) × IsText formatting.out (codes "out") rows

-- the subcommand that was met, with the values of its arguments
abbrev pub IsMet : Command → Text → List Row → Type 0
IsMet (Compile source out symbols language preprocessing depfile) name rows =
    (name ≡ codes "compile") × (first_of (codes "IN") rows ≡ Some source.now) × (first_of (codes "OUT") rows ≡ Some out.now) × (symbols ≡ is_on (first_of (codes "symbols") rows))
    × IsLanguage language rows × IsPreprocessing preprocessing rows × IsText depfile (codes "depfile") rows
IsMet (Preprocess source definitions) name rows =
    (name ≡ codes "cpp") × (first_of (codes "IN") rows ≡ Some source.now) × AreDefinitions definitions rows
IsMet (Overlay base overlay out) name rows =
    (name ≡ codes "overlay") × (first_of (codes "BASE") rows ≡ Some base.now) × (first_of (codes "OVERLAY") rows ≡ Some overlay.now) × (first_of (codes "OUT") rows ≡ Some out.now)
IsMet (Dump blob labels) name rows =
    (name ≡ codes "dump") × (first_of (codes "IN") rows ≡ Some blob.now) × (labels ≡ is_on (first_of (codes "labels") rows))
IsMet (Plan board picture late) name rows =
    (name ≡ codes "plan") × IsBoard board rows × IsPicture picture rows × (late ≡ is_on (first_of (codes "late") rows))
IsMet (Probe board timeout workers without) name rows =
    (name ≡ codes "probe") × IsBoard board rows × IsText timeout (codes "timeout") rows
    × AreWorkers workers rows × IsText without (codes "without") rows
IsMet (Why board timeout path check) name rows =
    (name ≡ codes "why") × IsBoard board rows × IsText timeout (codes "timeout") rows × IsText path (codes "PATH") rows × (check ≡ is_on (first_of (codes "check") rows))
IsMet (Needs board path) name rows = (name ≡ codes "needs") × IsBoard board rows × (first_of (codes "PATH") rows ≡ Some path.now)
IsMet (Drivers aliases builtin kernel) name rows =
    (name ≡ codes "drivers") × (first_of (codes "ALIASES") rows ≡ Some aliases.now) × IsText builtin (codes "MODINFO") rows
    × IsText kernel (codes "kernel") rows
IsMet (Trace log plan) name rows =
    (name ≡ codes "trace") × (first_of (codes "LOG") rows ≡ Some log.now) × (first_of (codes "PLAN") rows ≡ Some plan.now)
IsMet (Replay plan schedule workers) name rows =
    (name ≡ codes "replay") × (first_of (codes "PLAN") rows ≡ Some plan.now) × (first_of (codes "SCHEDULE") rows ≡ Some schedule.now)
    × AreAsked workers rows
IsMet (Find blob what) name rows =
    (name ≡ codes "find") × (first_of (codes "BLOB") rows ≡ Some blob.now) × (first_of (codes "WHAT") rows ≡ Some what.now)
IsMet (Who blob path number) name rows =
    (name ≡ codes "who") × (first_of (codes "BLOB") rows ≡ Some blob.now) × (first_of (codes "PATH") rows ≡ Some path.now)
    × IsText number (codes "NUMBER") rows
IsMet (Map blob) name rows = (name ≡ codes "map") × (first_of (codes "BLOB") rows ≡ Some blob.now)
IsMet (Check inspection) name rows = (name ≡ codes "check") × IsInspection inspection rows
IsMet (Diff first second order) name rows =
    (name ≡ codes "diff") × (first_of (codes "FIRST") rows ≡ Some first.now) × (first_of (codes "SECOND") rows ≡ Some second.now)
    × (order ≡ is_on (first_of (codes "order") rows))
IsMet (Get blob path property kind) name rows =
    (name ≡ codes "get") × (first_of (codes "BLOB") rows ≡ Some blob.now) × (first_of (codes "PATH") rows ≡ Some path.now)
    × IsText property (codes "PROPERTY") rows × IsText kind (codes "type") rows
IsMet (Listing blob path) name rows = (name ≡ codes "ls") × (first_of (codes "BLOB") rows ≡ Some blob.now) × IsText path (codes "PATH") rows
IsMet (Set blob path property values kind out) name rows =
    (name ≡ codes "set") × (first_of (codes "BLOB") rows ≡ Some blob.now) × (first_of (codes "PATH") rows ≡ Some path.now)
    × (first_of (codes "PROPERTY") rows ≡ Some property.now) × (map (λ word. word.now) values.items ≡ texts_of (codes "VALUE") rows)
    × IsText kind (codes "type") rows × IsText out (codes "out") rows
IsMet (Format formatting) name rows = (name ≡ codes "fmt") × IsFormatting formatting rows
IsMet (Serve folders) name rows =
    (name ≡ codes "lsp") × (map (λ folder. folder.now) folders.items ≡ texts_of (codes "include") rows)
IsMet (Explain number) name rows = (name ≡ codes "explain") × (unwrap_or (first_of (codes "NUMBER") rows) (codes "all") ≡ number.now)

pub record Meets (command : Command) (met : Option (Text × List Row)) : Type 0 where
  pub name : Text
  pub rows : List Row
  pub given : met ≡ Some (name, rows)
  pub is_met : IsMet command name rows

-- what the words say, the first of which is the program's name
abbrev pub Says : Command → List Text → Type 0
Says command words = Meets command (subcommand_of dtman words)
