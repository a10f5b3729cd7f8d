-- An empty node as bytes.
use Rattle.std.proofs.Common.{◌≡◌, ℕ, ◌+◌, ◌-◌, ◌%◌, ◌≤◌, true, List, [], ◌∷◌, ◌++◌, length, take, drop, refl, ap, sym, ◌∙◌, arith, append_assoc, length-append}
use Rattle.std.proofs.lemmas.List.{take_at}
use Rattle.dt_tree.specs.Name.{is_name}
use Rattle.dt_blob.specs.BigEndian.{word}
use Rattle.dt_blob.specs.Blob.{padding}
use Rattle.dt_blob.specs.Holds.{Spells}
use Rattle.dt_blob.specs.Token.{begin_node, end_node}
use Rattle.dt_blob.proofs.Sizes.{length-padding, length-word}
use Rattle.dt_patch.proofs.ViewLemmas.Spellings.{alone}
use Rattle.dt_patch.specs.Adding.{node_size}
use Rattle.dt_patch.specs.Private.Cutting.{node_bytes}
use Rattle.dt_patch.specs.Private.Places.{put_at}
use Rattle.dt_patch.proofs.Named.{clean_name}
use Rattle.dt_patch.proofs.Puts.{put_more}

-- the pieces together
regrouped : (a n z p e : List ℕ) → (((a ++ n) ++ z) ++ p) ++ e ≡ a ++ (n ++ (z ++ (p ++ e)))
regrouped a n z p e = append_assoc ((a ++ n) ++ z) p e ∙ append_assoc (a ++ n) z (p ++ e) ∙ append_assoc a n (z ++ (p ++ e))

pub length-node : (name : List ℕ) → length (node_bytes name) ≡ 9 + length name + (4 - (length name + 1) % 4) % 4
length-node name =
    omega (
      arith,
      length-append (word 1) (name ++ (0 ∷ [] ++ (padding (length name + 1) ++ word 2))),
      length-append name (0 ∷ [] ++ (padding (length name + 1) ++ word 2)),
      length-append (0 ∷ []) (padding (length name + 1) ++ word 2),
      length-append (padding (length name + 1)) (word 2),
      length-word 1,
      length-word 2,
      length-padding (length name + 1),
    )

pub node_wide : (name : List ℕ) → length (node_bytes name) ≡ node_size (length name)
node_wide name = let w = length-node name in omega (arith, w)

pub put_pieces : (x b c d e f : List ℕ) (at : ℕ) (name : List ℕ) → at ≤ length x → b ≡ put_at x at (word 1) → c ≡ put_at b (at + 4) name → d ≡ put_at c (at + 4 + length name) (0 ∷ []) → e ≡ put_at d (at + 4 + length name + 1) (padding (length name + 1))
    → f ≡ put_at e (at + 4 + length name + 1 + (4 - (length name + 1) % 4) % 4) (word 2) → f ≡ put_at x at (node_bytes name)
put_pieces x b c d e f at name h eb ec ed ee ef =
    let n : ℕ = length name in
    let a : List ℕ = word 1 in
    let z : List ℕ = 0 ∷ [] in
    let p : List ℕ = padding (n + 1) in
    let two = put_more x b c at (at + 4) a name h eb (omega (arith, length-word 1)) ec in
    let three = put_more x c d at (at + 4 + n) (a ++ name) z h two (omega (arith, length-word 1, length-append a name)) ed in
    let four = put_more x d e at (at + 4 + n + 1) ((a ++ name) ++ z) p h three (omega (arith, length-word 1, length-append a name, length-append (a ++ name) z)) ee in
    let five = put_more x e f at (at + 4 + n + 1 + (4 - (n + 1) % 4) % 4) (((a ++ name) ++ z) ++ p) (word 2) h four
    (omega (arith, length-word 1, length-append a name, length-append (a ++ name) z, length-append ((a ++ name) ++ z) p, length-padding (n + 1))) ef in
    five ∙ ap (put_at x at) (regrouped a name z p (word 2))

-- what is put at the front of bytes is their first part
pub front_put : (x : List ℕ) (w : List ℕ) (n : ℕ) → length w ≡ n → take n (put_at x 0 w) ≡ w
front_put x w n e = take_at w (drop (0 + length w) x) n e

-- it spells a node's beginning and its end
pub node_spelled : (strings name : List ℕ) → is_name name ≡ true → Spells strings (begin_node name ∷ end_node ∷ []) (node_bytes name)
node_spelled strings name e =
    let pad : List ℕ = padding (length name + 1) in
    let first : List ℕ = word 1 ++ (name ++ 0 ∷ pad) in
    let same : node_bytes name ≡ first ++ word 2 = sym (append_assoc (word 1) (name ++ 0 ∷ pad) (word 2) ∙ ap (λ (x : List ℕ). word 1 ++ x) (append_assoc name (0 ∷ pad) (word 2))) in
    (first, word 2, same, (pad, refl, (omega (arith, length-padding (length name + 1)), omega (arith, length-padding (length name + 1))), clean_name name e), alone strings end_node (word 2) refl)
