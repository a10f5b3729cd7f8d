-- What open files come to, turn by turn.
use Rattle.std.proofs.Common.{Global, ◌≡◌, ℕ, zero, suc, ◌-◌, ◌<◌, ◌≤◌, Bool, true, false, List, [], ◌∷◌, ◌++◌, length, take, drop, refl, sym, ap, subst, ◌∙◌, arith}
use Rattle.std.specs.Prelude.{Vec}
use Rattle.std.proofs.lemmas.List.{append_assoc, append-nil}
use Rattle.std.proofs.Math.Seq.{drop-nil}
use denote.Ref.{Bor}
use Rattle.dt_text.specs.declared.include.inclusion.Found.{Found}
use Rattle.dt_text.specs.declared.include.inclusion.Frame.{Frame}
use Rattle.dt_text.specs.declared.include.inclusion.Whole.{Whole}
use Rattle.dt_text.specs.declared.include.inclusion.Turn.{Turn}
use Rattle.dt_text.specs.declared.include.inclusion.Turn.TheVariants.{Again, End, Into}
use Rattle.dt_text.specs.declared.include.place.Span.{Span}
use Rattle.dt_text.specs.declared.include.places.Line.{Line}
use Rattle.dt_text.specs.declared.include.words.Inclusion.{Inclusion}
use Rattle.dt_text.specs.declared.include.words.Inclusion.TheVariants.{Binary, Source}
use Rattle.dt_text.specs.Include.Inclusion.{Includes, IncludesFrom, Piece, behind_words, binary, itself, named, plain, source}
use Rattle.dt_text.specs.Include.Private.Included.{Behind, ComesTo, Completes, Enters, Goes, IsPassed, PassedBy, TurnsTo, first_marker, first_put, passed_text, place_on, stands_for, stay, words_of}
use Rattle.dt_text.specs.Include.Private.Places.{place_of}
use Rattle.dt_text.specs.Include.UserLines.{UserPlace, first_of, marker_line, marker_of, place_behind, plain_of}
use Rattle.dt_text.specs.Include.Words.{HasNext, MayEnd, NamesFile, Passes, name_of}
use Rattle.dt_text.proofs.IncludeLemmas.Pieces.{adds_nothing, adds_text}
use Rattle.dt_text.proofs.IncludeLemmas.UserPlaces.{behind_nothing}
use Rattle.dt_text.proofs.IncludeLemmas.WordEnds.{cut_before, passes_ends, words_between, words_end, words_long}

-- the line that is kept at a file's begin
at_first : (line : Line) (path : List ℕ) → line.file.items ≡ plain_of path → line.line ≡ 1 → place_of line ≡ first_of path
at_first line path file number = rw (file, number) refl

-- before the first words the place is that of the file's begin
unmoved : (frame : Frame) → frame.words.end ≡ 0 → place_on frame ≡ place_of frame.line
unmoved frame none =
    ap (λ (n : ℕ). place_behind (place_of frame.line) (drop frame.words.start (take n frame.bytes.items))) none ∙ ap (place_behind (place_of frame.line)) (drop-nil frame.words.start)
    ∙ behind_nothing (place_of frame.line)

-- no words are to be passed
pub not_passed : (frame : Frame) (whole : Whole) → frame.words.end ≡ 0 → IsPassed frame frame whole whole
not_passed frame whole none = record {
  put = [];
  behind = by_number frame.words.end none;
  line_is = sym (unmoved frame none);
  grown_is = adds_nothing whole;
  path_is = refl;
  nested_is = refl;
  bytes_is = refl;
  words_is = refl;
}
  where
    by_number : (n : ℕ) → n ≡ 0 → PassedBy n (passed_text frame) []
    by_number zero e = refl
    by_number (suc n) e = absurd (omega (arith, e))

-- words are passed
pub passed_by : (n : ℕ) (text : List ℕ) → 0 < n → PassedBy n text (plain text)
passed_by zero text lt = absurd (omega (arith, lt))
passed_by (suc n) text lt = refl

pub put_by : (n : ℕ) (text : List ℕ) (put : List Piece) → 0 < n → PassedBy n text put → put ≡ plain text
put_by zero text put lt h = absurd (omega (arith, lt))
put_by (suc n) text put lt h = h

-- words are passed that stay, or for which a marker stands
module _ (old new : Frame) (whole grown : Whole) (words : List ℕ) (some : 0 < old.words.end) (is : words ≡ words_of old) (line : place_of new.line ≡ place_behind (place_of old.line) words)
    (path : new.path ≡ old.path) (nested : new.nested ≡ old.nested) (bytes : new.bytes ≡ old.bytes) (same : new.words ≡ old.words) (files : grown.binaries ≡ whole.binaries) where
  on_line : place_of new.line ≡ place_on old
  on_line = line ∙ ap (place_behind (place_of old.line)) is

  passed_with : (text : List ℕ) → passed_text old ≡ text → grown.text.items ≡ whole.text.items ++ text → IsPassed old new whole grown
  passed_with text text_is more = record {
    put = plain text;
    behind = subst (λ (t : List ℕ). PassedBy old.words.end (passed_text old) (plain t)) text_is (passed_by old.words.end (passed_text old) some);
    line_is = on_line;
    grown_is = adds_text whole grown text more files;
    path_is = path;
    nested_is = nested;
    bytes_is = bytes;
    words_is = same;
  }

  pub staying : old.stays ≡ true → grown.text.items ≡ whole.text.items ++ words → IsPassed old new whole grown
  staying stays more = passed_with words (ap (λ b. stands_for b (words_of old) (place_on old)) stays ∙ sym is) more

  pub replaced : old.stays ≡ false → grown.text.items ≡ whole.text.items ++ marker_line new.line.line new.line.file.items → IsPassed old new whole grown
  replaced stays more =
      passed_with (marker_line new.line.line new.line.file.items) (ap (λ b. stands_for b (words_of old) (place_on old)) stays ∙ ap marker_of (sym on_line)) more

pub before-three : {A : Type 0} → (m a b c : List A) → m ++ (a ++ b ++ c) ≡ m ++ a ++ b ++ c
before-three m a b c = sym (append_assoc m (a ++ b) c) ∙ ap (λ t. t ++ c) (sym (append_assoc m a b))

pub before-four : {A : Type 0} → (m a b c d : List A) → m ++ (a ++ b ++ c ++ d) ≡ m ++ a ++ b ++ (c ++ d)
before-four m a b c d =
    sym (append_assoc m (a ++ b ++ c) d) ∙ ap (λ t. t ++ d) (sym (append_assoc m (a ++ b) c) ∙ ap (λ t. t ++ c) (sym (append_assoc m a b)))
    ∙ append_assoc (m ++ a ++ b) c d

pub before-five : {A : Type 0} → (m a b c d e : List A) → m ++ (a ++ b ++ c ++ d ++ e) ≡ m ++ a ++ b ++ c ++ (d ++ e)
before-five m a b c d e =
    sym (append_assoc m (a ++ b ++ c ++ d) e)
    ∙ ap (λ t. t ++ e) (sym (append_assoc m (a ++ b ++ c) d) ∙ ap (λ t. t ++ d) (sym (append_assoc m (a ++ b) c) ∙ ap (λ t. t ++ c) (sym (append_assoc m a b))))
    ∙ append_assoc (m ++ a ++ b ++ c) d e

-- what a turn has read of a file, and where it goes on
pub record Reading (old frame new : Frame) (inclusion : Inclusion) (whole passed : Whole) : Type 0 where
  pub left : List ℕ
  pub at : List ℕ
  pub rest : List ℕ
  pub before : List ℕ
  pub passed_is : IsPassed old frame whole passed
  pub left_is : left ≡ drop frame.words.end frame.bytes.items
  pub next : Passes left at × NamesFile at inclusion rest
  pub before_is : before ≡ take (length left - length at) left
  pub path_is : new.path ≡ frame.path
  pub nested_is : new.nested ≡ frame.nested
  pub bytes_is : new.bytes ≡ frame.bytes
  pub starts_at : new.words.start ≡ length frame.bytes.items - length at
  pub ends_at : new.words.end ≡ length frame.bytes.items - length rest
  pub stays : new.stays ≡ stay inclusion
  pub line_is : place_of new.line ≡ place_behind (place_of frame.line) before

module _ (old frame new : Frame) (inclusion : Inclusion) (whole passed : Whole) (r : Reading old frame new inclusion whole passed) where
  pub has_next : HasNext r.left inclusion r.before r.rest
  has_next = record {
    at = r.at;
    passes = r.next.0;
    names = r.next.1;
    before_is = ap (λ (t : List ℕ). t ++ r.at) r.before_is ∙ cut_before r.left r.at (passes_ends r.left r.at r.next.0);
  }

  pub left_of : drop old.words.end old.bytes.items ≡ r.left
  left_of = ap (λ (w : Span). drop w.end old.bytes.items) (sym r.passed_is.words_is) ∙ ap (λ (b : Vec ℕ Global). drop frame.words.end b.items) (sym r.passed_is.bytes_is) ∙ sym r.left_is

  pub path_of : old.path ≡ new.path
  path_of = sym (r.path_is ∙ r.passed_is.path_is)

  pub nested_of : new.nested ≡ old.nested
  nested_of = r.nested_is ∙ r.passed_is.nested_is

  ends : (r.rest ≡ drop (length frame.bytes.items - length r.rest) frame.bytes.items) × (0 < length frame.bytes.items - length r.rest)
  ends = words_end frame.bytes.items r.left r.at r.rest frame.words.end inclusion r.left_is r.next.0 r.next.1

  pub rest_of : drop new.words.end new.bytes.items ≡ r.rest
  rest_of = ap (λ (b : Vec ℕ Global). drop new.words.end b.items) r.bytes_is ∙ ap (λ (n : ℕ). drop n frame.bytes.items) r.ends_at ∙ sym ends.0

  pub some_words : 0 < new.words.end
  some_words = omega (arith, ends.1, r.ends_at)

  words_are : words_of new ≡ drop (length frame.bytes.items - length r.at) (take (length frame.bytes.items - length r.rest) frame.bytes.items)
  words_are = rw (r.starts_at, r.ends_at, r.bytes_is) refl

  pub long_words : 8 ≤ length (words_of new)
  long_words = omega (arith, ap length words_are, words_long frame.bytes.items r.left r.at r.rest frame.words.end inclusion r.left_is r.next.0 r.next.1)

  -- the text: what stands before the words, they, and what stands behind
  pub all_of : r.before ++ words_of new ++ r.rest ≡ r.left
  unfolding has_next
  all_of =
      append_assoc r.before (words_of new) r.rest
      ∙ ap (λ (t : List ℕ). r.before ++ t) (ap (λ (t : List ℕ). t ++ r.rest) words_are ∙ words_between frame.bytes.items r.left r.at r.rest frame.words.end inclusion r.left_is r.next.0 r.next.1)
      ∙ has_next.before_is

  abbrev pub reached_place : UserPlace
  reached_place = behind_words (place_on old) r.before (words_of new)

  reached : place_on new ≡ reached_place
  reached = ap (λ (p : UserPlace). place_behind p (words_of new)) (r.line_is ∙ ap (λ (p : UserPlace). place_behind p r.before) r.passed_is.line_is)

  pub stands : passed_text new ≡ stands_for (stay inclusion) (words_of new) reached_place
  stands = ap (λ b. stands_for b (words_of new) (place_on new)) r.stays ∙ ap (λ (p : UserPlace). stands_for (stay inclusion) (words_of new) p) reached

  module _ (Finds : List ℕ → List ℕ → Found → Type 0) where
    pub found_by : (name : List ℕ) (found : Found) → Finds frame.path.items name found → Finds old.path.items name found
    found_by name found f = subst (λ (b : Vec ℕ Global). Finds b.items name found) r.passed_is.path_is f

module _ (Finds : List ℕ → List ℕ → Found → Type 0) where
  -- ---- the stack

  pub no_files : Completes Finds [] []
  unfolding Completes
  no_files = refl

  pub done : (said : List Piece) → Completes Finds [] said → said ≡ []
  unfolding Completes
  done said h = h

  -- one file more is open, the innermost
  pub opened : (frames : List Frame) (frame : Frame) (own outer : List Piece) → ComesTo Finds frame own → Completes Finds frames outer → Completes Finds (frames ++ frame ∷ []) (own ++ outer)
  unfolding Completes
  opened [] frame own outer h k = ([], own, refl, h, rw k (append-nil own))
  opened (f ∷ frames) frame own outer h k =
      (own ++ k.0, k.1, opened frames frame own k.0 h k.2, k.3, ap (λ (t : List Piece). own ++ t) k.4 ∙ sym (append_assoc own k.0 k.1))

  -- the innermost file, and the others
  pub split : (frames : List Frame) (frame : Frame) (said : List Piece) → Completes Finds (frames ++ frame ∷ []) said
      → (own outer : List Piece) × ComesTo Finds frame own × Completes Finds frames outer × (said ≡ own ++ outer)
  unfolding Completes
  split [] frame said h = (h.1, [], h.3, refl, rw (h.4, h.2) (sym (append-nil h.1)))
  split (f ∷ frames) frame said h =
      let inner = split frames frame h.0 h.2 in
      (inner.0, inner.1 ++ h.1, inner.2, (inner.1, h.1, inner.3, h.3, refl), h.4 ∙ ap (λ (t : List Piece). t ++ h.1) inner.4 ∙ append_assoc inner.0 inner.1 h.1)

  -- ---- one turn

  -- What is put for the words that were read last stands before all that follows.
  passed_first : (old : Frame) (put more : List Piece) → Behind old put → IncludesFrom Finds old.nested old.path.items (place_on old) (drop old.words.end old.bytes.items) more
      → ComesTo Finds old (put ++ more)
  passed_first old put more b h = record { passed = put; more = more; behind = b; rest = h; said_is = refl }

  ends_with : (old : Frame) (put : List Piece) (left : List ℕ) → Behind old put → left ≡ drop old.words.end old.bytes.items → MayEnd old.nested left → ComesTo Finds old (put ++ plain left)
  ends_with old put left b is h =
      passed_first old put (plain left) b (subst (λ (t : List ℕ). IncludesFrom Finds old.nested old.path.items (place_on old) t (plain left)) is (itself h))

  -- what is left of a file behind words
  marked : (frame : Frame) (own : List Piece) → 0 < frame.words.end → ComesTo Finds frame own
      → (more : List Piece) × IncludesFrom Finds frame.nested frame.path.items (place_on frame) (drop frame.words.end frame.bytes.items) more × (own ≡ plain (passed_text frame) ++ more)
  marked frame own some h = (h.more, h.rest, h.said_is ∙ ap (λ (t : List Piece). t ++ h.more) (put_by frame.words.end (passed_text frame) h.passed some h.behind))

  module _ (old frame new : Frame) (inclusion : Inclusion) (whole passed : Whole) (r : Reading old frame new inclusion whole passed) where
    abbrev place : UserPlace
    place = reached_place old frame new inclusion whole passed r

    -- what follows the words in the file
    goes_on : (own : List Piece) → ComesTo Finds new own
        → (more : List Piece) × IncludesFrom Finds old.nested old.path.items place r.rest more × (own ≡ plain (stands_for (stay inclusion) (words_of new) place) ++ more)
    goes_on own h =
        let m = marked new own (some_words old frame new inclusion whole passed r) h in (
          m.0,
          subst (λ (p : UserPlace). IncludesFrom Finds old.nested old.path.items p r.rest m.0) (reached old frame new inclusion whole passed r)
              (subst (λ (b : Bool). IncludesFrom Finds b old.path.items (place_on new) r.rest m.0) (nested_of old frame new inclusion whole passed r)
              (subst (λ (p : Vec ℕ Global). IncludesFrom Finds new.nested p.items (place_on new) r.rest m.0) (sym (path_of old frame new inclusion whole passed r))
              (subst (λ (t : List ℕ). IncludesFrom Finds new.nested new.path.items (place_on new) t m.0) (rest_of old frame new inclusion whole passed r) m.1))),
          m.2 ∙ ap (λ (t : List ℕ). plain t ++ m.0) (stands old frame new inclusion whole passed r),
        )

    whole_of : (more : List Piece) → IncludesFrom Finds old.nested old.path.items (place_on old) r.left more → ComesTo Finds old (r.passed_is.put ++ more)
    whole_of more h =
        passed_first old r.passed_is.put more r.passed_is.behind
        (subst (λ (t : List ℕ). IncludesFrom Finds old.nested old.path.items (place_on old) t more) (sym (left_of old frame new inclusion whole passed r)) h)

  -- a source is taken in
  pub source_turns : (old frame new : Frame) (name : Bor (List ℕ)) (found : Found) (whole passed : Whole) (r : Reading old frame new (Source name) whole passed)
      → Finds frame.path.items name.now found → TurnsTo Finds old new (Into found) (r.passed_is.put ++ plain r.before)
  source_turns old frame new name found whole passed r f = λ inner own h k.
      let m = goes_on old frame new (Source name) whole passed r own k in
      let first = first_marker found in
      let last = plain (marker_of (reached_place old frame new (Source name) whole passed r)) in
      let all =
      source name (words_of new) r.rest found (has_next old frame new (Source name) whole passed r) (all_of old frame new (Source name) whole passed r)
      (found_by old frame new (Source name) whole passed r Finds name.now found f) h m.1 in
      subst (ComesTo Finds old)
      (before-five r.passed_is.put (plain r.before) first inner last m.0 ∙ ap (λ (t : List Piece). r.passed_is.put ++ plain r.before ++ first ++ inner ++ t) (sym m.2))
      (whole_of old frame new (Source name) whole passed r (plain r.before ++ first ++ inner ++ last ++ m.0) all)

  -- a binary file is named
  pub binary_turns : (old frame new : Frame) (name : Bor (List ℕ)) (found : Found) (whole passed : Whole) (r : Reading old frame new (Binary name) whole passed)
      → Finds frame.path.items (name_of (Binary name)) found → TurnsTo Finds old new Again (r.passed_is.put ++ plain r.before ++ named found.bytes.items)
  binary_turns old frame new name found whole passed r f = λ own k.
      let m = goes_on old frame new (Binary name) whole passed r own k in
      let bytes = named found.bytes.items in
      let words = plain (words_of new) in
      let all =
      binary name (words_of new) r.rest found (has_next old frame new (Binary name) whole passed r) (all_of old frame new (Binary name) whole passed r)
      (found_by old frame new (Binary name) whole passed r Finds (name_of (Binary name)) found f) m.1 in
      subst (ComesTo Finds old)
      (before-four r.passed_is.put (plain r.before) bytes words m.0 ∙ ap (λ (t : List Piece). r.passed_is.put ++ plain r.before ++ bytes ++ t) (sym m.2))
      (whole_of old frame new (Binary name) whole passed r (plain r.before ++ bytes ++ words ++ m.0) all)

  -- the file ends
  pub ended : (old frame : Frame) (whole passed : Whole) (left : List ℕ) (p : IsPassed old frame whole passed) → left ≡ drop frame.words.end frame.bytes.items → MayEnd frame.nested left
      → TurnsTo Finds old frame End (p.put ++ plain left)
  ended old frame whole passed left p is h =
      ends_with old p.put left p.behind (is ∙ ap (λ (w : Span). drop w.end frame.bytes.items) p.words_is ∙ ap (λ (b : Vec ℕ Global). drop old.words.end b.items) p.bytes_is)
      (subst (λ (b : Bool). MayEnd b left) p.nested_is h)

  -- ---- the whole text

  -- what a file that was just opened comes to
  pub just_opened : (frame : Frame) (own : List Piece) → frame.words.end ≡ 0 → place_of frame.line ≡ first_of frame.path.items → ComesTo Finds frame own → Includes Finds frame.nested frame.path.items frame.bytes.items own
  just_opened frame own none first h =
      subst (λ (p : UserPlace). IncludesFrom Finds frame.nested frame.path.items p frame.bytes.items own) (unmoved frame none ∙ first) (by_number frame.words.end none h.passed h.more h.behind h.rest h.said_is)
    where
      by_number : (n : ℕ) → n ≡ 0 → (passed more : List Piece) → PassedBy n (passed_text frame) passed → IncludesFrom Finds frame.nested frame.path.items (place_on frame) (drop n frame.bytes.items) more → own ≡ passed ++ more
          → IncludesFrom Finds frame.nested frame.path.items (place_on frame) frame.bytes.items own
      by_number zero e passed more b i is = subst (IncludesFrom Finds frame.nested frame.path.items (place_on frame) frame.bytes.items) (sym (is ∙ ap (λ (t : List Piece). t ++ more) b)) i
      by_number (suc n) e passed more b i is = absurd (omega (arith, e))

  -- what is put so far, and what the open files still come to, is what the text comes to
  abbrev pub IsUnderWay : List ℕ → List ℕ → List Frame → List Piece → Type 0
  IsUnderWay path text frames said = (tail : List Piece) → Completes Finds frames tail → Includes Finds false path text (said ++ tail)

  begun : (path text : List ℕ) (frame : Frame) → frame.words.end ≡ 0 → place_of frame.line ≡ first_of path → frame.path.items ≡ path → frame.nested ≡ false → frame.bytes.items ≡ text → IsUnderWay path text (frame ∷ []) []
  begun path text frame none first same_path own same_text tail h =
      let s = split [] frame tail h in
      let is : s.0 ≡ tail = sym (append-nil s.0) ∙ ap (λ (t : List Piece). s.0 ++ t) (sym (done s.1 s.3)) ∙ sym s.4 in
      subst (λ (t : List Piece). Includes Finds false path text t) is
      (subst (λ (b : Bool). Includes Finds b path text s.0) own
      (subst (λ (p : List ℕ). Includes Finds frame.nested p text s.0) same_path
      (subst (λ (t : List ℕ). Includes Finds frame.nested frame.path.items t s.0) same_text (just_opened frame s.0 none (first ∙ ap first_of (sym same_path)) s.2))))

  over : (path text : List ℕ) (said : List Piece) → IsUnderWay path text [] said → Includes Finds false path text said
  over path text said h = subst (Includes Finds false path text) (append-nil said) (h [] no_files)

  pub gone_on : (path text : List ℕ) (frames now : List Frame) (old new : Frame) (turn : Turn) (said put last : List Piece) → last ≡ said ++ put ++ first_put turn
      → IsUnderWay path text (frames ++ old ∷ []) said → TurnsTo Finds old new turn put → Goes frames new turn now → IsUnderWay path text now last
  gone_on path text frames now old new End said put last last_is inv turns goes tail h =
      let all = inv (put ++ tail) (opened frames old put tail turns (subst (λ (fs : List Frame). Completes Finds fs tail) goes h)) in
      subst (Includes Finds false path text) (sym (append_assoc said put tail) ∙ ap (λ (t : List Piece). t ++ tail) (sym (last_is ∙ append-nil (said ++ put)))) all
  gone_on path text frames now old new Again said put last last_is inv turns goes tail h =
      let s = split frames new tail (subst (λ (fs : List Frame). Completes Finds fs tail) goes h) in
      let all = inv (put ++ s.0 ++ s.1) (opened frames old (put ++ s.0) s.1 (turns s.0 s.2) s.3) in
      let is : said ++ (put ++ s.0 ++ s.1) ≡ last ++ tail =
      ap (λ (t : List Piece). said ++ t) (append_assoc put s.0 s.1) ∙ sym (append_assoc said put (s.0 ++ s.1))
      ∙ ap (λ (t : List Piece). said ++ put ++ t) (sym s.4) ∙ ap (λ (t : List Piece). t ++ tail) (sym (last_is ∙ append-nil (said ++ put))) in
      subst (Includes Finds false path text) is all
  gone_on path text frames now old new (Into found) said put last last_is inv turns goes tail h =
      let s = split (frames ++ new ∷ []) goes.inner tail (subst (λ (fs : List Frame). Completes Finds fs tail) goes.opened_is h) in
      let r = split frames new s.1 s.3 in
      let first = first_marker found in
      let inside = subst (λ (b : Vec ℕ Global). Includes Finds true b.items found.bytes.items s.0) goes.path_is
      (subst (λ (b : Vec ℕ Global). Includes Finds true goes.inner.path.items b.items s.0) goes.bytes_is
      (subst (λ (b : Bool). Includes Finds b goes.inner.path.items goes.inner.bytes.items s.0) goes.nested_is (just_opened goes.inner s.0 goes.words_is (goes.line_is ∙ ap (λ (b : Vec ℕ Global). first_of b.items) (sym goes.path_is)) s.2))) in
      let all = inv (put ++ first ++ s.0 ++ r.0 ++ r.1) (opened frames old (put ++ first ++ s.0 ++ r.0) r.1 (turns s.0 r.0 inside r.2) r.3) in
      let is : said ++ (put ++ first ++ s.0 ++ r.0 ++ r.1) ≡ last ++ tail =
      before-five said put first s.0 r.0 r.1 ∙ append_assoc (said ++ put ++ first) s.0 (r.0 ++ r.1)
      ∙ ap (λ (t : List Piece). said ++ put ++ first ++ t) (sym (s.4 ∙ ap (λ (t : List Piece). s.0 ++ t) r.4))
      ∙ ap (λ (t : List Piece). t ++ tail) (sym last_is) in
      subst (Includes Finds false path text) is all

  -- ---- the same, at the places of the code

  pub begun_at : (path text : List ℕ) (frames : List Frame) (frame : Frame) → frames ≡ frame ∷ [] → frame.words.end ≡ 0 → frame.line.file.items ≡ plain_of path → frame.line.line ≡ 1
      → frame.path.items ≡ path → frame.nested ≡ false → frame.bytes.items ≡ text → IsUnderWay path text frames []
  begun_at path text frames frame one words file line same_path own same_text =
      subst (λ (fs : List Frame). IsUnderWay path text fs []) (sym one) (begun path text frame words (at_first frame.line path file line) same_path own same_text)

  pub over_at : (path text : List ℕ) (said : List Piece) (frames : List Frame) → frames ≡ [] → IsUnderWay path text frames said → Includes Finds false path text said
  over_at path text said frames none h = over path text said (subst (λ (fs : List Frame). IsUnderWay path text fs said) none h)

-- A file is opened within the others.
pub entered : (frames pushed now : List Frame) (frame inner : Frame) (found : Found) (name : List ℕ) → inner.path ≡ found.path → inner.nested ≡ true → inner.bytes ≡ found.bytes → inner.words.end ≡ 0
    → pushed ≡ frames ++ frame ∷ [] → now ≡ pushed ++ inner ∷ [] → name ≡ found.path.items → inner.line.file.items ≡ plain_of name → inner.line.line ≡ 1
    → Enters frames frame found now
entered frames pushed now frame inner found name path nested bytes words push open_is name_is file line = record {
  inner = inner;
  path_is = path;
  nested_is = nested;
  bytes_is = bytes;
  words_is = words;
  line_is = at_first inner.line found.path.items (file ∙ ap plain_of name_is) line;
  opened_is = open_is ∙ ap (λ (fs : List Frame). fs ++ inner ∷ []) push;
}
