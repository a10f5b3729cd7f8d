-- What a blob shows, by its blocks.
use Rattle.std.proofs.Common.{◌≡◌, ℕ, Bool, true, false, List, [], ◌∷◌, ◌++◌, drop, Some, None, refl, ap, sym, subst, ◌∙◌}
use Rattle.std.specs.Prelude.{is_some}
use Rattle.std.proofs.lemmas.List.{append-nil}
use Rattle.dt_tree.specs.Name.{is_name, are_names}
use Rattle.dt_tree.specs.NodeData.{NodeData, Siblings, none, more, child_names}
use Rattle.dt_tree.specs.Sound.{IsSoundBelow}
use Rattle.dt_tree.specs.TreeData.{TreeData, tree_data}
use Rattle.dt_blob.specs.Blocks.{AreBlocks, structure_in}
use Rattle.dt_blob.specs.declared.read_blocks.BlobBlocks.{BlobBlocks}
use Rattle.dt_blob.specs.HeaderWords.{header_of, header_fault, strings_of, structure_of, reserves_of}
use Rattle.dt_blob.specs.Holds.{Reserves, SpellsRoot, Holds, is_nop, without_nops}
use Rattle.dt_blob.specs.Token.{Token, end, tree_tokens}
use Rattle.dt_blob.specs.Steps.Reading.{room_of, reserves_at, tokens_at, structure_tokens}
use Rattle.dt_blob.proofs.Holding.{in_room, structure_held, block_bytes, reserves_again}
use Rattle.dt_blob.proofs.Tests.{both}
use Rattle.dt_blob.proofs.TokenLists.{root_spelled, root_lexed}
use Rattle.dt_blob.proofs.Whole.{reserves_sound, reserves_bytes}
use Rattle.dt_blob.proofs.Words.{AreBytes}
use Rattle.dt_patch.specs.View.Shows.{IsOver, NamedBelow, Shows, Views}
use Rattle.dt_patch.specs.View.Standing.{Begins}
use Rattle.dt_patch.specs.declared.view.stages.Stage.TheVariants as stage
use Rattle.dt_patch.specs.declared.view.view.View.{View}
use Rattle.dt_patch.specs.View.Private.Stages.{accepts}
use Rattle.dt_patch.proofs.ViewLemmas.Shapes.{accept_tree, accepted_tree}

-- ---- the blocks of a view

pub is_over_blocks : (bytes : List ℕ) (view : View) (b : BlobBlocks) → AreBlocks bytes b → view.reserves.now ≡ b.reserves.now → view.structure.now ≡ b.structure.now → view.strings.now ≡ b.strings.now → view.boot_cpu ≡ b.boot_cpu → IsOver bytes view
is_over_blocks bytes view b a r s t c = record { reserves = r ∙ a.reserves; structure = s ∙ a.structure; strings = t ∙ a.strings; boot_cpu = c ∙ a.boot_cpu }

without_end : (ts : List Token) → without_nops (ts ++ end ∷ []) ≡ without_nops ts ++ end ∷ []
without_end [] = refl
without_end (t ∷ ts) = by_test _ refl (without_end ts) where
  by_test : (b : Bool) → is_nop t ≡ b → without_nops (ts ++ end ∷ []) ≡ without_nops ts ++ end ∷ [] → without_nops ((t ∷ ts) ++ end ∷ []) ≡ without_nops (t ∷ ts) ++ end ∷ []
  by_test true f ih = rw f ih
  by_test false f ih = rw f (ap (λ (x : List Token). t ∷ x) ih)

tree_begins : (strings structure part rest : List ℕ) (root : NodeData) → structure ≡ part ++ rest → SpellsRoot strings root part → Begins strings structure (tree_tokens root)
tree_begins strings structure part rest root is s = record {
  all = s.0 ++ end ∷ [];
  front = part;
  behind = rest;
  after = [];
  is = is;
  spells = s.1;
  kept = without_end (s.0) ∙ ap (λ (x : List Token). x ++ end ∷ []) (s.2) ∙ sym (append-nil (tree_tokens root));
}

pub views_shown : (bytes : List ℕ) (view : View) (tree : TreeData) → IsOver bytes view → Shows bytes tree → Views view tree
views_shown bytes view tree o s =
    let h = header_of bytes in
    let t = s.structure in
    let r = in_room h.structure_at (t.0) h.size h.structure_size bytes (t.1) in
    let b = tree_begins (strings_of bytes) (structure_in bytes) (structure_of (t.0) bytes) r.rest tree.root r.is (t.2) in
    record {
      reserves = subst (λ (x : List ℕ). Reserves tree.reserves x) (sym o.reserves) s.reserves;
      root = subst (λ (x : List ℕ). Begins x (drop 0 view.structure.now) (tree_tokens tree.root)) (sym o.strings) (subst (λ (x : List ℕ). Begins (strings_of bytes) (drop 0 x) (tree_tokens tree.root)) (sym o.structure) b);
      boot_cpu = s.boot_cpu ∙ sym o.boot_cpu;
    }

-- ---- what is opened

pub tokens_as : (bytes : List ℕ) (b : BlobBlocks) → AreBlocks bytes b → tokens_at b.is_sized b.strings.now b.structure.now ≡ structure_tokens bytes
tokens_as bytes b a =
    ap (λ (x : Bool). tokens_at x b.strings.now b.structure.now) a.is_sized
    ∙ ap (λ (x : List ℕ). tokens_at (is_some (header_of bytes).structure_size) x b.structure.now) a.strings
    ∙ ap (λ (x : List ℕ). tokens_at (is_some (header_of bytes).structure_size) (strings_of bytes) x) a.structure

pub shown_tokens : (bytes : List ℕ) (tree : TreeData) → Shows bytes tree → structure_tokens bytes ≡ tree_tokens tree.root
shown_tokens bytes tree s =
    let h = header_of bytes in
    let t = s.structure in
    let r = in_room h.structure_at (t.0) h.size h.structure_size bytes (t.1) in
    ap (tokens_at (is_some h.structure_size) (strings_of bytes)) r.is ∙ root_lexed (is_some h.structure_size) (strings_of bytes) (structure_of (t.0) bytes) r.rest tree.root r.whole (t.2)

pub shown_accepted : (bytes : List ℕ) (b : BlobBlocks) (tree : TreeData) → AreBlocks bytes b → Shows bytes tree → accepts stage.Before (tokens_at b.is_sized b.strings.now b.structure.now) ≡ true
shown_accepted bytes b tree a s = ap (accepts stage.Before) (tokens_as bytes b a ∙ shown_tokens bytes tree s) ∙ accept_tree tree.root s.limits

pub shown_reserves : (bytes : List ℕ) (b : BlobBlocks) (tree : TreeData) → AreBlocks bytes b → Shows bytes tree → reserves_at b.reserves.now ≡ Some tree.reserves
shown_reserves bytes b tree a s = ap reserves_at a.reserves ∙ reserves_again tree.reserves (reserves_of bytes) s.reserves

-- a tree that the bytes show
abbrev pub Shown : List ℕ → Type 0
Shown bytes = (tree : TreeData) × Shows bytes tree

pub shown : (bytes : List ℕ) (b : BlobBlocks) (rs : List (ℕ × ℕ)) → AreBytes bytes → AreBlocks bytes b → header_fault bytes ≡ None → reserves_at b.reserves.now ≡ Some rs → accepts stage.Before (tokens_at b.is_sized b.strings.now b.structure.now) ≡ true → Shown bytes
shown bytes b rs f a n r e =
    let h = header_of bytes in
    let sized = is_some h.structure_size in
    let t = accepted_tree (structure_tokens bytes) (ap (accepts stage.Before) (sym (tokens_as bytes b a)) ∙ e) in
    let spelled = root_spelled sized (strings_of bytes) (structure_in bytes) t.root (block_bytes h.structure_at (room_of h) bytes f) t.tokens in (
      tree_data rs h.boot_cpu t.root,
      record {
        header = n;
        reserves = reserves_sound (reserves_of bytes) rs (reserves_bytes bytes f) (ap reserves_at (sym a.reserves) ∙ r);
        structure = structure_held bytes t.root n spelled;
        boot_cpu = refl;
        limits = t.named;
      },
    )

-- ---- what holds a tree shows it

named_below : (f : Siblings) → are_names (child_names f) ≡ true → IsSoundBelow f → NamedBelow f
named_below none n s = tt
named_below (more name ps children rest) n s =
    let p = both (is_name name) (are_names (child_names rest)) n in
    (p.0, s.0.named, named_below children s.1.named (s.2), named_below rest (p.1) (s.3))

pub held_shown : (bytes : List ℕ) (tree : TreeData) → Holds bytes tree → Shows bytes tree
held_shown bytes tree h =
    let s = h.limits.sound in
    record {
      header = h.header;
      reserves = h.reserves;
      structure = h.structure;
      boot_cpu = h.boot_cpu;
      limits = record { no_name = h.limits.no_name; properties = s.properties.named; below = named_below tree.root.children s.siblings.named s.below; shallow = s.shallow };
    }
