-- What the command line may say: each subcommand with its arguments, as clap's definitions have them.
use Rattle.std.specs.Prelude.{ℕ, [], ◌∷◌, Some, true, false, codes}
use Rattle.bus_manager.specs.Workers.{most_workers}
use Rattle.clap.specs.declared.builder.action.ArgAction.TheVariants.{SetTrue, Append, Count}
use Rattle.clap.specs.declared.builder.value_parser.ValueParser.TheVariants.{Unsigned}
use Rattle.clap.specs.Words.{App, Rule, Text, new_app, new_rule, with_rule, with_subcommand}

-- an argument that has to be there
abbrev pub required : Text → Rule
required id = record (new_rule id) { required = true }

-- one that may be left out
abbrev pub optional : Text → Rule
optional id = new_rule id

-- an option without a value
abbrev pub flag : Text → Rule
flag id = record (new_rule id) { long = Some id; action = Some SetTrue }

abbrev pub dump : App
dump = with_rule (with_rule (new_app (codes "dump")) (required (codes "IN"))) (flag (codes "labels"))

-- an option with a number from 1 to the most
abbrev pub asked_number : Text → ℕ → Rule
asked_number id most = record (new_rule id) { long = Some id; parser = Some (Unsigned 1 most) }

-- the same, and the number where it isn't given
abbrev pub number : Text → ℕ → Text → Rule
number id most default = record (new_rule id) { long = Some id; parser = Some (Unsigned 1 most); defaults = default ∷ [] }

-- an option with a text
abbrev pub asked_text : Text → Rule
asked_text id = record (new_rule id) { long = Some id; value_names = 1 }

-- an option without a value that wants another beside it
abbrev pub beside : Text → Rule
beside id = record (new_rule id) { long = Some id; action = Some SetTrue; is_free = false }

-- whose links count
abbrev pub with_links : App → App
with_links app = with_rule (with_rule app (asked_text (codes "links"))) (beside (codes "strict"))

-- an option with a text that wants another beside it
abbrev pub text_beside : Text → Rule
text_beside id = record (new_rule id) { long = Some id; value_names = 1; is_free = false }

-- whose links count, and when Linux waits no longer for devices without a driver
abbrev pub with_timeout : App → App
with_timeout app = with_rule (with_links app) (text_beside (codes "timeout"))

-- what is drawn
abbrev pub with_picture : App → App
with_picture app = with_rule (with_rule (with_rule app (flag (codes "dot"))) (flag (codes "html"))) (asked_text (codes "of"))

-- an option that has a short name too, may be given again and again, with a value each time, and wants another beside it
abbrev pub repeated : Text → ℕ → Rule
repeated id short = record (new_rule id) { long = Some id; short = Some short; action = Some Append; value_names = 1; is_free = false }

-- an option that has a short name too, and may be given again and again, with a text each time
abbrev pub listed : Text → ℕ → Rule
listed id short = record (new_rule id) { long = Some id; short = Some short; action = Some Append; value_names = 1 }

-- the same without a short name
abbrev pub again : Text → Rule
again id = record (new_rule id) { long = Some id; action = Some Append; value_names = 1 }

-- what a source is preprocessed with
abbrev pub with_definitions : App → App
with_definitions app = with_rule (with_rule (with_rule app (listed (codes "include-dir") 73)) (listed (codes "define") 68)) (again (codes "preinclude"))

-- and whether it is
abbrev pub with_preprocessing : App → App
with_preprocessing app = with_rule (with_rule (with_definitions app) (flag (codes "cpp"))) (flag (codes "no-cpp"))

abbrev pub compile : App
compile =
    with_rule
    (with_preprocessing
    (with_rule
    (with_rule (with_rule (with_rule (with_rule (new_app (codes "compile")) (required (codes "IN"))) (required (codes "OUT"))) (flag (codes "symbols"))) (flag (codes "dtc")))
    (repeated (codes "include") 105)))
    (asked_text (codes "depfile"))

abbrev pub preprocess : App
preprocess = with_definitions (with_rule (new_app (codes "cpp")) (required (codes "IN")))

abbrev pub overlay : App
overlay = with_rule (with_rule (with_rule (new_app (codes "overlay")) (required (codes "BASE"))) (required (codes "OVERLAY"))) (required (codes "OUT"))

abbrev pub plan : App
plan =
    with_rule (with_links (with_picture (with_rule (with_rule (new_app (codes "plan")) (required (codes "BLOB"))) (required (codes "DRIVERS")))))
    (beside (codes "late"))

abbrev pub replay : App
replay =
    with_rule (with_rule (with_rule (new_app (codes "replay")) (required (codes "PLAN"))) (required (codes "SCHEDULE")))
    (asked_number (codes "workers") most_workers)

abbrev pub probe : App
probe =
    with_timeout
    (with_rule
    (with_rule (with_rule (with_rule (new_app (codes "probe")) (required (codes "BLOB"))) (required (codes "DRIVERS"))) (number (codes "workers") most_workers (codes "4")))
    (asked_text (codes "without")))

abbrev pub why : App
why =
    with_timeout
    (with_rule (with_rule (with_rule (with_rule (new_app (codes "why")) (required (codes "BLOB"))) (required (codes "DRIVERS"))) (optional (codes "PATH")))
    (flag (codes "check")))

abbrev pub needs : App
needs =
    with_links (with_rule (with_rule (with_rule (new_app (codes "needs")) (required (codes "BLOB"))) (required (codes "DRIVERS"))) (required (codes "PATH")))

abbrev pub drivers : App
drivers =
    with_rule (with_rule (with_rule (new_app (codes "drivers")) (required (codes "ALIASES"))) (optional (codes "MODINFO"))) (asked_text (codes "kernel"))

abbrev pub trace : App
trace = with_rule (with_rule (new_app (codes "trace")) (required (codes "LOG"))) (required (codes "PLAN"))

-- an option with a text and a short name
abbrev pub lettered : Text → ℕ → Rule
lettered id short = record (new_rule id) { long = Some id; short = Some short; value_names = 1 }

-- arguments of which any number may stand behind the others
abbrev pub others : Text → Rule
others id = record (new_rule id) { action = Some Append }

-- an option without a value that is counted
abbrev pub counted : Text → ℕ → Rule
counted id short = record (new_rule id) { long = Some id; short = Some short; action = Some Count }

-- arguments of which one has to be there, and any number may stand behind it
abbrev pub several : Text → Rule
several id = record (new_rule id) { required = true; action = Some Append }

-- which checks are made
abbrev pub with_selection : App → App
with_selection app = with_rule (with_rule app (listed (codes "warning") 87)) (listed (codes "error") 69)

-- how what they find is told
abbrev pub with_telling : App → App
with_telling app = with_rule (with_rule app (counted (codes "quiet") 113)) (flag (codes "json"))

abbrev pub find : App
find = with_rule (with_rule (new_app (codes "find")) (required (codes "BLOB"))) (required (codes "WHAT"))

abbrev pub who : App
who = with_rule (with_rule (with_rule (new_app (codes "who")) (required (codes "BLOB"))) (required (codes "PATH"))) (optional (codes "NUMBER"))

abbrev pub map : App
map = with_rule (new_app (codes "map")) (required (codes "BLOB"))

abbrev pub check : App
check =
    with_preprocessing
    (with_rule
    (with_rule
    (with_telling (with_selection (with_rule (with_rule (with_rule (new_app (codes "check")) (several (codes "IN"))) (flag (codes "dtc"))) (listed (codes "include") 105))))
    (asked_text (codes "known")))
    (flag (codes "learn")))

abbrev pub diff : App
diff = with_rule (with_rule (with_rule (new_app (codes "diff")) (required (codes "FIRST"))) (required (codes "SECOND"))) (flag (codes "order"))

abbrev pub get : App
get =
    with_rule (with_rule (with_rule (with_rule (new_app (codes "get")) (required (codes "BLOB"))) (required (codes "PATH"))) (optional (codes "PROPERTY")))
    (lettered (codes "type") 116)

abbrev pub list : App
list = with_rule (with_rule (new_app (codes "ls")) (required (codes "BLOB"))) (optional (codes "PATH"))

abbrev pub set : App
set =
    with_rule
    (with_rule
    (with_rule (with_rule (with_rule (with_rule (new_app (codes "set")) (required (codes "BLOB"))) (required (codes "PATH"))) (required (codes "PROPERTY"))) (others (codes "VALUE")))
    (lettered (codes "type") 116))
    (lettered (codes "out") 111)

abbrev pub format : App
format =
    with_rule
    (with_rule (with_rule (with_rule (with_rule (new_app (codes "fmt")) (required (codes "IN"))) (flag (codes "hex"))) (flag (codes "check"))) (flag (codes "diff")))
    (lettered (codes "out") 111)

abbrev pub serve : App
serve = with_rule (new_app (codes "lsp")) (listed (codes "include") 73)

abbrev pub explain : App
explain = with_rule (new_app (codes "explain")) (optional (codes "NUMBER"))

-- the program, with a version, which wants a subcommand
abbrev pub top : App
top = let a = new_app (codes "dtman") in record a { top = record a.top { has_version = true; subcommand_required = true } }

-- those of the boards' buses
abbrev pub with_questions : App → App
with_questions app = with_subcommand (with_subcommand (with_subcommand (with_subcommand app why.top) needs.top) drivers.top) trace.top

-- those of the boards' trees
abbrev pub with_trees : App → App
with_trees app = with_subcommand (with_subcommand (with_subcommand app find.top) who.top) map.top

-- those of the mistakes, the nodes and the values of blobs
abbrev pub with_blobs : App → App
with_blobs app = with_subcommand (with_subcommand (with_subcommand (with_subcommand (with_subcommand app check.top) diff.top) get.top) list.top) set.top

-- those of an author's own files
abbrev pub with_authors : App → App
with_authors app = with_subcommand (with_subcommand app format.top) serve.top

unfoldable pub dtman : App
dtman =
    with_subcommand
    (with_authors
    (with_blobs
    (with_trees
    (with_questions
    (with_subcommand (with_subcommand (with_subcommand (with_subcommand (with_subcommand (with_subcommand (with_subcommand top compile.top) preprocess.top) overlay.top) dump.top) plan.top) replay.top) probe.top)))))
    explain.top
