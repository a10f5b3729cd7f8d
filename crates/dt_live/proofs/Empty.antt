-- A live tree without rows.
use Rattle.std.proofs.Common.{◌≡◌, ℕ, Bool, List, [], None, sym, subst, true≢false, arith}
use Rattle.dt_live.specs.declared.live_tree.NodeRow.{NodeRow}
use Rattle.dt_live.specs.declared.live_tree.PropertyRow.{PropertyRow}
use Rattle.dt_live.specs.declared.live_tree.LabelRow.{LabelRow}
use Rattle.dt_live.specs.Rows.{Found, IsNodeIndex, IsPropertyIndex, IsLabelIndex, AreTables, stands}
use Rattle.dt_live.proofs.NodeRows.{absent-present}
use Rattle.dt_live.proofs.PropertyRows.{no-some}

no-nodes : (found : Found) → ((n : ℕ) (k : List ℕ) → found n k ≡ None) → IsNodeIndex [] found
no-nodes found none = record { right = λ n k m e. absurd (absent-present _ _ (none n k) e); whole = λ i e. absurd (true≢false e) }

no-properties : {V : Type 0} (found : Found) → ((n : ℕ) (k : List ℕ) → found n k ≡ None) → IsPropertyIndex {V = V} [] found
no-properties {V} found none = record { right = λ n k m e. absurd (absent-present _ _ (none n k) e); whole = λ i e. absurd (no-some V e) }

no-labels : (is_there : ℕ → Bool) (found : Found) → ((n : ℕ) (k : List ℕ) → found n k ≡ None) → IsLabelIndex is_there [] found
no-labels is_there found none = record { right = λ k m e. absurd (absent-present _ _ (none 0 k) e); whole = λ i below e. absurd (omega arith) }

pub no-rows : {V : Type 0} (rows : List NodeRow) (ps : List (PropertyRow V)) (ls : List LabelRow) (nodes properties labels : Found) → rows ≡ [] → ps ≡ [] → ls ≡ []
    → ((n : ℕ) (k : List ℕ) → nodes n k ≡ None) → ((n : ℕ) (k : List ℕ) → properties n k ≡ None) → ((n : ℕ) (k : List ℕ) → labels n k ≡ None)
    → AreTables rows ps ls nodes properties labels
no-rows {V} rows ps ls nodes properties labels a b c none-a none-b none-c =
    let P : List NodeRow → List (PropertyRow V) → List LabelRow → Type 0 = λ x y z. AreTables x y z nodes properties labels in
    subst (λ x. P x ps ls) (sym a) (subst (λ y. P [] y ls) (sym b) (subst (λ z. P [] [] z) (sym c) (record {
      grown = λ k. omega arith;
      nodes = no-nodes nodes none-a;
      properties = no-properties properties none-b;
      labels = no-labels (stands []) labels none-c;
      known = λ i. omega arith;
      known_labels = λ i. omega arith;
    })))
