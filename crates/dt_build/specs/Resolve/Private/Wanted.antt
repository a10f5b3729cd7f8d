-- The phandles that are given, and the nodes that get one, by their rows (Devicetree Specification v0.4, section 2.3.3).
use Rattle.std.specs.Prelude.{◌≡◌, ℕ, zero, suc, ◌+◌, ◌==◌, Bool, not, ◌||◌, ◌&&◌, List, [], ◌∷◌, ◌++◌, length, map, Result, Ok, MatchResult, if◌then◌else◌}
use Rattle.std.specs.List.{list_any, filter}
use Rattle.std.specs.Ordering.{nat_cmp}
use Rattle.std.specs.BTreeSet.{BTreeSet, contains}
use Rattle.dt_tree.specs.Phandle.{is_reserved}
use Rattle.dt_source.specs.TreeMeaning.Paths.{Path}
use Rattle.dt_source.specs.TreeMeaning.Phandles.{PathPhandle, assigned, given_of, has_phandle, new_ones}
use Rattle.dt_live.specs.declared.live_tree.LiveTree.{LiveTree}
use Rattle.dt_live.specs.declared.live_tree.NodeRow.{NodeRow}
use Rattle.dt_live.specs.declared.preorder.properties.NodeProperty.{NodeProperty}
use Rattle.dt_live.specs.Rows.{node_path}
use Rattle.dt_build.specs.Edit.Said.{Parts}
use Rattle.dt_build.specs.declared.resolve.error.BuildError.{BuildError}
use Rattle.dt_build.specs.declared.resolve.node_phandles.Given.{Given}
use Rattle.dt_build.specs.declared.resolve.node_phandles.NodePhandle.{NodePhandle}
use Rattle.dt_build.specs.Resolve.BuildFault.{IsFault}
use Rattle.dt_build.specs.Resolve.NodePhandles.{path_phandle_of}
use Rattle.dt_build.specs.Resolve.Private.ReadProperty.{read_property}

-- the set has the number
abbrev pub is_taken : BTreeSet ℕ → ℕ → Bool
is_taken taken n = contains nat_cmp taken n

-- ---- given
abbrev pub phandles_of : List NodeRow → Given → List PathPhandle
phandles_of rows given = map (path_phandle_of rows) given.phandles.items

-- the set has these phandles and no other
abbrev pub HasTaken : List NodeRow → Given → Type 0
HasTaken rows given = (n : ℕ) → is_taken given.taken n ≡ has_phandle n (phandles_of rows given)

-- the phandles of properties stand behind the old ones, or the call has the fault
abbrev pub Notes : {A : Type 0} → List NodeRow → List (NodeProperty Parts) → List PathPhandle → (A → Given) → Result A BuildError → Type 0
Notes rows xs old new result = MatchResult result
    (λ a. given_of (map (read_property rows) xs) old ≡ Ok (phandles_of rows (new a)))
    (λ e. IsFault e.kind (given_of (map (read_property rows) xs) old))

-- ---- wanted
-- each once, where it is first, without those that are known
abbrev pub new_rows : (ℕ → Bool) → List ℕ → List ℕ
new_rows known [] = []
new_rows known (n ∷ ns) = if known n then new_rows known ns else n ∷ new_rows (λ m. (m == n) || known m) ns

-- the first number above n that isn't taken, after so many tries
abbrev pub free_after : (ℕ → Bool) → ℕ → ℕ → ℕ
free_after taken zero n = n + 1
free_after taken (suc tries) n = if taken (n + 1) then free_after taken tries (n + 1) else n + 1

-- each node gets the next phandle that isn't taken
abbrev pub assigned_rows : (ℕ → Bool) → ℕ → ℕ → List ℕ → List NodePhandle
assigned_rows taken tries n [] = []
assigned_rows taken tries n (k ∷ ks) = record { node = k; phandle = free_after taken tries n } ∷ assigned_rows taken tries (free_after taken tries n) ks

-- the nodes of a list that pass, without the reserved ones
abbrev pub marked_rows : LiveTree Parts → (ℕ → Bool) → List ℕ → List ℕ
marked_rows d test order = filter (λ n. test n && not (is_reserved (node_path d n))) order

-- those that have labels
abbrev pub labelled_rows : LiveTree Parts → List ℕ → List ℕ
labelled_rows d order = marked_rows d (λ n. list_any (λ r. r.node == n) d.labels.items) order

-- the nodes that are named in cells, and with symbols the labelled ones behind them
abbrev pub named_rows : LiveTree Parts → List ℕ → List ℕ → Bool → List ℕ
named_rows d order cells symbols = cells ++ (if symbols then labelled_rows d order else [])

-- each node gets the next phandle above n that isn't given
abbrev pub new_phandles : Given → ℕ → List ℕ → List NodePhandle
new_phandles given n ns = assigned_rows (is_taken given.taken) (length given.phandles.items) n ns

-- those of a list that have none get one, in their order
abbrev pub numbered : List PathPhandle → ℕ → List Path → List PathPhandle
numbered given n ps = assigned given n (new_ones (map (λ x. x.path) given) ps)

abbrev pub AreNumbered : LiveTree Parts → Given → ℕ → List ℕ → List NodePhandle → Type 0
AreNumbered d given n nodes new =
    map (path_phandle_of d.nodes.items) new ≡ numbered (phandles_of d.nodes.items given) n (map (node_path d) nodes)
