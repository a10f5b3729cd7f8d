-- The blob from its blocks.
use Rattle.std.proofs.Common.{◌≡◌, ℕ, ◌+◌, ◌*◌, ◌<◌, ◌≤◌, List, [], ◌∷◌, ◌++◌, length, drop, get_or, ap, sym, ◌∙◌, inl, inr, arith, length-append, append_assoc, drop-cons, add-one}
use Rattle.std.proofs.lemmas.List.{drop_all}
use Rattle.std.specs.Prelude.{Result, Ok, Err, IsErrAnd, MatchResult}
use Rattle.dt_tree.specs.TreeData.{TreeData, IsTree}
use Rattle.dt_blob.specs.declared.error.BlobError.{BlobError}
use Rattle.dt_blob.specs.BigEndian.{double_word}
use Rattle.dt_blob.specs.Blob.{header, reservations, names_in, structure_from, blob_of}
use Rattle.dt_blob.specs.Strings.{with_names}
use Rattle.dt_blob.specs.Steps.Table.{placed, with_sights}
use Rattle.dt_blob.specs.Token.{tokens_of, tree_tokens}
use Rattle.dt_blob.specs.Steps.Written.{all_bytes, tokens_size}
use Rattle.dt_blob.specs.Blob.{Refuses}
use Rattle.dt_blob.proofs.Lasting.{structure-is, strings-are}
use Rattle.dt_blob.proofs.Sizes.{length-word, length-double_word, length-all}
use Rattle.dt_blob.proofs.Walk.{tree-names, clean-tree}

pub length-header : (boot reserved structure strings : ℕ) → length (header boot reserved structure strings) ≡ 40
length-header boot reserved structure strings = simp (length-append, length-word)

pub length-reservations : (rs : List (ℕ × ℕ)) → length (reservations rs) ≡ 16 * length rs + 16
length-reservations [] = simp (length-append, length-double_word)
length-reservations (r ∷ rs) =
    omega (arith, length-append (double_word r.0) (double_word r.1 ++ reservations rs), length-append (double_word r.1) (reservations rs), length-double_word r.0, length-double_word r.1, length-reservations rs)

-- one reservation more
pub next-reservation : (out a b last : List ℕ) (rs : List (ℕ × ℕ)) (i : ℕ) (r : ℕ × ℕ) → i < length rs → a ≡ out ++ double_word (get_or rs i r).0 → b ≡ a ++ double_word (get_or rs i r).1 → out ++ reservations (drop i rs) ≡ last → b ++ reservations (drop (i + 1) rs) ≡ last
next-reservation out a b last rs i r h ea eb left =
    let e : get_or rs i r ∷ drop (i + 1) rs ≡ drop i rs = rw add-one (sym (drop-cons rs i r h)) in
    let x = double_word (get_or rs i r).0 in
    let y = double_word (get_or rs i r).1 in
    let rest = reservations (drop (i + 1) rs) in
    ap (λ (ys : List ℕ). ys ++ rest) (eb ∙ ap (λ (ys : List ℕ). ys ++ y) ea) ∙ append_assoc (out ++ x) y rest ∙ append_assoc out x (y ++ rest) ∙ ap (λ (ds : List (ℕ × ℕ)). out ++ reservations ds) e ∙ left

-- the pair of zeros behind the last
pub last-reservation : (out a last : List ℕ) (rs : List (ℕ × ℕ)) (i : ℕ) → length rs ≤ i → a ≡ out ++ double_word 0 → out ++ reservations (drop i rs) ≡ last → a ++ double_word 0 ≡ last
last-reservation out a last rs i h ea left =
    ap (λ (ys : List ℕ). ys ++ double_word 0) ea ∙ append_assoc out (double_word 0) (double_word 0) ∙ ap (λ (ds : List (ℕ × ℕ)). out ++ reservations ds) (sym (drop_all i rs h)) ∙ left

-- how long the blob is, by what is known before it is made
pub blob-size : (tree : TreeData) → IsTree tree → length (blob_of tree) ≡ 40 + (16 * length tree.reserves + 16) + tokens_size (tree_tokens tree.root) + length (with_names [] (with_sights [] (names_in (tokens_of tree.root))))
blob-size tree t =
    let tokens = tree_tokens tree.root in
    let clean = clean-tree tree.root t.sound in
    let reserves = reservations tree.reserves in
    let structure = structure_from [] tokens in
    let strings = with_names [] (names_in tokens) in
    let written : length structure ≡ tokens_size tokens = ap length (sym (structure-is tokens clean)) ∙ length-all (placed (with_sights [] (names_in tokens))) tokens in
    let named : length (with_names [] (with_sights [] (names_in (tokens_of tree.root)))) ≡ length strings = ap (λ (ns : List (List ℕ)). length (with_names [] (with_sights [] ns))) (sym (tree-names tree.root)) ∙ ap length (strings-are tokens clean) in
    omega (
      arith,
      written,
      named,
      length-append (header tree.boot_cpu (length reserves) (length structure) (length strings)) (reserves ++ (structure ++ strings)),
      length-append reserves (structure ++ strings),
      length-append structure strings,
      length-header tree.boot_cpu (length reserves) (length structure) (length strings),
      length-reservations tree.reserves,
    )

-- the blob, by what is written one after the other
pub blob-is : (tree : TreeData) → IsTree tree → (names : List (List ℕ)) (bytes : List ℕ) (reserved structure strings : ℕ) → names ≡ with_sights [] (names_in (tokens_of tree.root)) → reserved ≡ 16 * length tree.reserves + 16 → structure ≡ tokens_size (tree_tokens tree.root) → strings ≡ length (with_names [] names)
    → bytes ≡ ((header tree.boot_cpu reserved structure strings ++ reservations tree.reserves) ++ all_bytes (placed names) (tree_tokens tree.root)) ++ with_names [] names → bytes ≡ blob_of tree
blob-is tree t names bytes reserved structure strings en er es et eb =
    let tokens = tree_tokens tree.root in
    let clean = clean-tree tree.root t.sound in
    let seen : names ≡ with_sights [] (names_in tokens) = en ∙ ap (with_sights []) (sym (tree-names tree.root)) in
    let block : with_names [] names ≡ with_names [] (names_in tokens) = ap (with_names []) seen ∙ strings-are tokens clean in
    let made : all_bytes (placed names) tokens ≡ structure_from [] tokens = ap (λ (ns : List (List ℕ)). all_bytes (placed ns) tokens) seen ∙ structure-is tokens clean in
    let r : reserved ≡ length (reservations tree.reserves) = er ∙ sym (length-reservations tree.reserves) in
    let s : structure ≡ length (structure_from [] tokens) = es ∙ sym (length-all (placed names) tokens) ∙ ap length made in
    let n : strings ≡ length (with_names [] (names_in tokens)) = et ∙ ap length block in
    let head = header tree.boot_cpu (length (reservations tree.reserves)) (length (structure_from [] tokens)) (length (with_names [] (names_in tokens))) in
    eb ∙ rw (made, block, r, s, n) (append_assoc (head ++ reservations tree.reserves) (structure_from [] tokens) (with_names [] (names_in tokens)) ∙ append_assoc head (reservations tree.reserves) (structure_from [] tokens ++ with_names [] (names_in tokens)))

refuses-over : {T : Type 0} (r : Result T BlobError) (P : T → Type 0) (e : BlobError) (m n : ℕ) → IsErrAnd r (λ d. d ≡ e) → Refuses m e → m ≤ n → MatchResult r P (λ d. Refuses n d)
refuses-over (Ok x) P e m n p h l = absurd p
refuses-over (Err d) P e m n p h l = rw p (elim h [ inl q ↦ inl q | inr q ↦ inr (q.0, omega (arith, q.1)) ])

-- the sizes on the way are no more than the blob's
pub no-room : {T : Type 0} (r : Result T BlobError) (P : T → Type 0) (e : BlobError) (m : ℕ) (blob : List ℕ) → IsErrAnd r (λ d. d ≡ e) → Refuses m e → m ≤ length blob → MatchResult r P (λ d. Refuses (length blob) d)
no-room r P e m blob p h l = refuses-over r P e m (length blob) p h l
