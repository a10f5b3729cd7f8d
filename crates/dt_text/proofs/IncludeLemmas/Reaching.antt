-- The places that reading comes to, turn by turn, and why it stops at one.
use Rattle.std.proofs.Common.{Global, ◌≡◌, ℕ, ◌+◌, ◌<◌, Bool, true, false, List, [], ◌∷◌, ◌++◌, length, drop, Result, Ok, Err, IfErr, OnOk, sym, ap, subst, inl, inr, ◌∙◌, arith}
use Rattle.std.specs.Prelude.{Vec, if◌then◌else◌}
use Rattle.std.specs.Result.{is_ok}
use Rattle.std.proofs.lemmas.List.{append-nil, append_assoc, length-append}
use Rattle.dt_text.specs.declared.include.inclusion.Found.{Found}
use Rattle.dt_text.specs.declared.include.inclusion.Frame.{Frame}
use Rattle.dt_text.specs.declared.include.inclusion.Incomplete.{Incomplete}
use Rattle.dt_text.specs.declared.include.inclusion.Incomplete.TheVariants.{NoFile, NoMemory, Syntax, TooDeep, TooLong}
use Rattle.dt_text.specs.declared.include.inclusion.Turn.{Turn}
use Rattle.dt_text.specs.declared.include.inclusion.Turn.TheVariants.{Again, End, Into}
use Rattle.dt_text.specs.declared.include.inclusion.Whole.{Whole}
use Rattle.dt_text.specs.declared.include.words.Inclusion.{Inclusion}
use Rattle.dt_text.specs.declared.include.words.Inclusion.TheVariants.{Binary, Source}
use Rattle.dt_text.specs.Include.Inclusion.{Includes, MayNest, Piece, text_of}
use Rattle.dt_text.specs.Include.Private.Included.{Advances, ComesTo, Completes, Exceeds, Goes, IsKept, IsMissing, IsStuck, IsTaken, Moves, Nests, PutsFrom, StopsIn, TurnsTo, first_marker}
use Rattle.dt_text.specs.Include.Private.Places.{place_of}
use Rattle.dt_text.specs.Include.Shortfall.{IsStopped, Puts, Reaches, Stops, StopsAt, begin, behind_binary, behind_source, into}
use Rattle.dt_text.specs.Include.UserLines.{first_of}
use Rattle.dt_text.specs.Include.Words.{HasNext, name_of}
use Rattle.dt_text.proofs.IncludeLemmas.OpenFiles.{Reading, found_by, has_next, just_opened, left_of, nested_of, no_files, opened, path_of, rest_of, split}
use Rattle.dt_text.proofs.IncludeLemmas.Pieces.{text-append}

pub err_weaker : {A E : Type 0} → (r : Result A E) (P Q : E → Type 0) → ((e : E) → P e → Q e) → IfErr r P → IfErr r Q
err_weaker (Ok a) P Q f h = h
err_weaker (Err e) P Q f h = f e h

pub on-ok : {A E P Q : Type 0} → (r : Result A E) → (P → Q) → OnOk r P → OnOk r Q
on-ok (Ok a) f p = f p
on-ok (Err e) f p = p

pub on-ok-if : {A E B : Type 0} → (r : Result A E) (x y z : B) → x ≡ (if is_ok r then y else z) → OnOk r (x ≡ y)
on-ok-if (Ok a) x y z h = h
on-ok-if (Err e) x y z h = tt

-- what is left of a file
abbrev pub left_in : Frame → List ℕ
left_in frame = drop frame.words.end frame.bytes.items

-- the next words of a file, as they are next behind what was read before
pub next_words : (old frame new : Frame) (inclusion : Inclusion) (whole passed : Whole) (r : Reading old frame new inclusion whole passed) → HasNext (left_in old) inclusion r.before (left_in new)
next_words old frame new inclusion whole passed r =
    subst (λ (t : List ℕ). HasNext t inclusion r.before (left_in new)) (sym (left_of old frame new inclusion whole passed r))
    (subst (HasNext r.left inclusion r.before) (sym (rest_of old frame new inclusion whole passed r)) (has_next old frame new inclusion whole passed r))

module _ (Finds : List ℕ → List ℕ → Found → Type 0) where
  -- ---- one turn

  advanced : (old frame new : Frame) (inclusion : Inclusion) (whole passed : Whole) (found : Found) → Reading old frame new inclusion whole passed → Finds frame.path.items (name_of inclusion) found → Advances Finds old new inclusion found
  advanced old frame new inclusion whole passed found r f = record {
    before = r.before;
    next = next_words old frame new inclusion whole passed r;
    finds = found_by old frame new inclusion whole passed r Finds (name_of inclusion) found f;
    path_is = sym (path_of old frame new inclusion whole passed r);
    nested_is = nested_of old frame new inclusion whole passed r;
  }

  by_turn : (old frame new : Frame) (inclusion : Inclusion) (turn : Turn) (whole passed taken grown : Whole) → Reading old frame new inclusion whole passed
      → IsTaken Finds frame.path.items inclusion taken grown turn → Moves Finds old new turn
  by_turn old frame new (Source name) End whole passed taken grown r h = absurd h
  by_turn old frame new (Binary name) End whole passed taken grown r h = absurd h
  by_turn old frame new (Source name) Again whole passed taken grown r h = absurd h
  by_turn old frame new (Binary name) (Into found) whole passed taken grown r h = absurd h
  by_turn old frame new (Source name) (Into found) whole passed taken grown r h = (name, advanced old frame new (Source name) whole passed found r h.0)
  by_turn old frame new (Binary name) Again whole passed taken grown r h = (name, h.0, advanced old frame new (Binary name) whole passed h.0 r h.1)

  pub moved : (old frame new : Frame) (inclusion : Inclusion) (turn : Turn) (whole passed taken grown : Whole) (beside : List ℕ) → Reading old frame new inclusion whole passed
      → beside ≡ frame.path.items → IsTaken Finds beside inclusion taken grown turn → Moves Finds old new turn
  moved old frame new inclusion turn whole passed taken grown beside r is h =
      by_turn old frame new inclusion turn whole passed taken grown r (subst (λ (b : List ℕ). IsTaken Finds b inclusion taken grown turn) is h)

  module _ (Lacks : List ℕ → List ℕ → Type 0) where
    by_reason : (old frame new : Frame) (inclusion : Inclusion) (reason : Incomplete) (whole passed : Whole) (text : List ℕ) → Reading old frame new inclusion whole passed
        → IsMissing Lacks frame.path.items (name_of inclusion) reason → StopsIn Finds Lacks old text reason
    by_reason old frame new inclusion NoMemory whole passed text r h = tt
    by_reason old frame new inclusion TooLong whole passed text r h = absurd h
    by_reason old frame new inclusion TooDeep whole passed text r h = absurd h
    by_reason old frame new inclusion Syntax whole passed text r h = absurd h
    by_reason old frame new inclusion (NoFile name) whole passed text r h = λ opened. (
      inclusion,
      record { before = r.before; rest = left_in new; next = next_words old frame new inclusion whole passed r },
      h.0,
      subst (λ (p : Vec ℕ Global). Lacks p.items name.items) r.passed_is.path_is h.1,
    )

    -- the file that is named isn't there
    pub lacking : (old frame new : Frame) (inclusion : Inclusion) (reason : Incomplete) (whole passed : Whole) (text beside : List ℕ) → Reading old frame new inclusion whole passed
        → beside ≡ frame.path.items → IsMissing Lacks beside (name_of inclusion) reason → StopsIn Finds Lacks old text reason
    lacking old frame new inclusion reason whole passed text beside r is h =
        by_reason old frame new inclusion reason whole passed text r (subst (λ (b : List ℕ). IsMissing Lacks b (name_of inclusion) reason) is h)

  -- ---- the stack: what the open files come to before a turn, where they come to something behind it

  pub ended_before : (frames : List Frame) (old : Frame) (put after : List Piece) → ComesTo Finds old put → Completes Finds (frames ++ []) after → Completes Finds (frames ++ old ∷ []) (put ++ after)
  ended_before frames old put after h k = opened Finds frames old put after h (subst (λ (fs : List Frame). Completes Finds fs after) (append-nil frames) k)

  pub again_before : (frames : List Frame) (old new : Frame) (put after : List Piece) → TurnsTo Finds old new Again put → Completes Finds (frames ++ new ∷ []) after
      → Completes Finds (frames ++ old ∷ []) (put ++ after)
  again_before frames old new put after turns k =
      let s = split Finds frames new after k in
      subst (Completes Finds (frames ++ old ∷ [])) (append_assoc put s.0 s.1 ∙ ap (λ (u : List Piece). put ++ u) (sym s.4)) (opened Finds frames old (put ++ s.0) s.1 (turns s.0 s.2) s.3)

  pub into_before : (frames : List Frame) (old new inner : Frame) (found : Found) (put after : List Piece) → TurnsTo Finds old new (Into found) put
      → ((own : List Piece) → ComesTo Finds inner own → Includes Finds true found.path.items found.bytes.items own) → Completes Finds (frames ++ new ∷ inner ∷ []) after
      → Completes Finds (frames ++ old ∷ []) (put ++ first_marker found ++ after)
  into_before frames old new inner found put after turns comes k =
      let s = split Finds (frames ++ new ∷ []) inner after (subst (λ (fs : List Frame). Completes Finds fs after) (sym (append_assoc frames (new ∷ []) (inner ∷ []))) k) in
      let r = split Finds frames new s.1 s.3 in
      let add = put ++ first_marker found in
      subst (Completes Finds (frames ++ old ∷ []))
      (append_assoc (add ++ s.0) r.0 r.1 ∙ append_assoc add s.0 (r.0 ++ r.1) ∙ ap (λ (u : List Piece). add ++ u) (ap (λ (u : List Piece). s.0 ++ u) (sym r.4) ∙ sym s.4))
      (opened Finds frames old (add ++ s.0 ++ r.0) r.1 (turns s.0 r.0 (comes s.0 s.2) r.2) r.3)

  -- what a file comes to that was just opened
  pub comes_to : (inner : Frame) (found : Found) (own : List Piece) → inner.path ≡ found.path → inner.nested ≡ true → inner.bytes ≡ found.bytes → inner.words.end ≡ 0
      → place_of inner.line ≡ first_of found.path.items → ComesTo Finds inner own → Includes Finds true found.path.items found.bytes.items own
  comes_to inner found own path_is nested_is bytes_is words_is line_is h =
      subst (λ (b : Vec ℕ Global). Includes Finds true b.items found.bytes.items own) path_is
      (subst (λ (b : Vec ℕ Global). Includes Finds true inner.path.items b.items own) bytes_is
      (subst (λ (b : Bool). Includes Finds b inner.path.items inner.bytes.items own) nested_is (just_opened Finds inner own words_is (line_is ∙ ap (λ (p : Vec ℕ Global). first_of p.items) (sym path_is)) h)))

  -- ---- the places of the open files

  module _ (path text : List ℕ) where
    -- A file is at a place that is reached; one that is nested isn't the only one that is open.
    abbrev IsAt : ℕ → Frame → Type 0
    IsAt opened frame = Reaches Finds path text opened frame.path.items (left_in frame) × (frame.nested ≡ true → 1 < opened)

    -- Each open file is at a place that is reached once the files that are open in it are read, from the outermost on.
    unfoldable pub AreReached : ℕ → List Frame → Type 0
    AreReached opened [] = Unit {0}
    AreReached opened (frame ∷ frames) =
        ((inner : List Piece) → Completes Finds frames inner → IsAt opened frame) × AreReached (opened + 1) frames

    -- the innermost files change
    changed : (n : ℕ) (frames old new : List Frame) (add : List Piece) → ((outer : List Frame) (after : List Piece) → Completes Finds (outer ++ new) after → Completes Finds (outer ++ old) (add ++ after))
        → AreReached n (frames ++ old) → AreReached (n + length frames) new → AreReached n (frames ++ new)
    unfolding AreReached
    changed n [] old new add step h k = let e : n + length {A = Frame} [] ≡ n = omega arith in subst (λ (m : ℕ). AreReached m new) e k
    changed n (f ∷ frames) old new add step h k =
        let e : n + length (f ∷ frames) ≡ n + 1 + length frames = omega arith in (
          λ after c. h.0 (add ++ after) (step frames after c),
          changed (n + 1) frames old new add step h.1 (subst (λ (m : ℕ). AreReached m new) e k),
        )

    within : (n : ℕ) (outer inner : List Frame) → AreReached n (outer ++ inner) → AreReached (n + length outer) inner
    unfolding AreReached
    within n [] inner h = let e : n ≡ n + length {A = Frame} [] = omega arith in subst (λ (m : ℕ). AreReached m inner) e h
    within n (f ∷ outer) inner h =
        let e : n + 1 + length outer ≡ n + length (f ∷ outer) = omega arith in
        subst (λ (m : ℕ). AreReached m inner) e (within (n + 1) outer inner h.1)

    none : (opened : ℕ) → AreReached opened []
    unfolding AreReached
    none opened = tt

    one : (opened : ℕ) (frame : Frame) → IsAt opened frame → AreReached opened (frame ∷ [])
    unfolding AreReached
    one opened frame h = (λ inner k. h, tt)

    two : (opened : ℕ) (outer inner : Frame) → ((said : List Piece) → Completes Finds (inner ∷ []) said → IsAt opened outer)
        → IsAt (opened + 1) inner → AreReached opened (outer ∷ inner ∷ [])
    unfolding AreReached
    two opened outer inner h k = (h, one (opened + 1) inner k)

    -- the place in the innermost file
    innermost : (frames : List Frame) (frame : Frame) → AreReached 1 (frames ++ frame ∷ []) → IsAt (1 + length frames) frame
    unfolding AreReached
    innermost frames frame h = (within 1 frames (frame ∷ []) h).0 [] (no_files Finds)

    just_begun : (opened : ℕ) (frame : Frame) (beside bytes : List ℕ) → frame.words.end ≡ 0 → frame.path.items ≡ beside → frame.bytes.items ≡ bytes
        → Reaches Finds path text opened beside bytes → Reaches Finds path text opened frame.path.items (left_in frame)
    just_begun opened frame beside bytes first same_path same_bytes h =
        let left : bytes ≡ left_in frame = sym same_bytes ∙ ap (λ (n : ℕ). drop n frame.bytes.items) (sym first) in
        subst (λ (p : List ℕ). Reaches Finds path text opened p (left_in frame)) (sym same_path) (subst (Reaches Finds path text opened beside) left h)

    pub begun_reached : (frames : List Frame) (frame : Frame) → frames ≡ frame ∷ [] → frame.words.end ≡ 0 → frame.path.items ≡ path → frame.nested ≡ false → frame.bytes.items ≡ text → AreReached 1 frames
    begun_reached frames frame is first same_path own same_text =
        subst (AreReached 1) (sym is) (one 1 frame (just_begun 1 frame path text first same_path same_text begin, λ e. absurd (cc (own, e))))

    same_file : (opened : ℕ) (old new : Frame) → new.path ≡ old.path → new.nested ≡ old.nested → IsAt opened old → Reaches Finds path text opened old.path.items (left_in new) → IsAt opened new
    same_file opened old new is nested place h = (subst (λ (p : Vec ℕ Global). Reaches Finds path text opened p.items (left_in new)) (sym is) h, λ e. place.1 (sym nested ∙ e))

    gone_on : (frames now : List Frame) (old new : Frame) (turn : Turn) (put : List Piece) → AreReached 1 (frames ++ old ∷ []) → TurnsTo Finds old new turn put
        → Moves Finds old new turn → Goes frames new turn now → Nests (1 + length frames) turn → AreReached 1 now
    gone_on frames now old new End put h t m g n =
        subst (AreReached 1) (append-nil frames ∙ sym g)
        (changed 1 frames (old ∷ []) [] put (λ outer after k. ended_before outer old put after t k) h (none (1 + length frames)))
    gone_on frames now old new Again put h t m g n =
        let here = innermost frames old h in
        let place = same_file (1 + length frames) old new m.2.path_is m.2.nested_is here (behind_binary m.0 m.1 here.0 m.2.next m.2.finds) in
        subst (AreReached 1) (sym g)
        (changed 1 frames (old ∷ []) (new ∷ []) put (λ outer after k. again_before outer old new put after t k) h (one (1 + length frames) new place))
    gone_on frames now old new (Into found) put h t m g n =
        let here = innermost frames old h in
        let comes : (own : List Piece) → ComesTo Finds g.inner own → Includes Finds true found.path.items found.bytes.items own = λ own. comes_to g.inner found own g.path_is g.nested_is g.bytes_is g.words_is g.line_is in
        let outer_place : (said : List Piece) → Completes Finds (g.inner ∷ []) said → IsAt (1 + length frames) new = λ said k.
        let s = split Finds [] g.inner said k in
        same_file (1 + length frames) old new m.1.path_is m.1.nested_is here (behind_source m.0 found here.0 m.1.next m.1.finds n (comes s.0 s.2)) in
        let first = just_begun (1 + length frames + 1) g.inner found.path.items found.bytes.items g.words_is
        (ap (λ (p : Vec ℕ Global). p.items) g.path_is) (ap (λ (b : Vec ℕ Global). b.items) g.bytes_is) (into m.0 found here.0 m.1.next m.1.finds n) in
        subst (AreReached 1) (sym (g.opened_is ∙ append_assoc frames (new ∷ []) (g.inner ∷ [])))
        (changed 1 frames (old ∷ []) (new ∷ g.inner ∷ []) (put ++ first_marker found) (λ outer after k. into_before outer old new g.inner found put after t comes k) h (two (1 + length frames) new g.inner outer_place (first, λ e. omega arith)))

    pub gone_reached : (frames now : List Frame) (old new : Frame) (turn : Turn) (put : List Piece) → AreReached 1 (frames ++ old ∷ []) → TurnsTo Finds old new turn put
        → Moves Finds old new turn → Goes frames new turn now → Nests (length frames + 1) turn → AreReached 1 now
    gone_reached frames now old new turn put h t m g n =
        let e : length frames + 1 ≡ 1 + length frames = omega arith in
        gone_on frames now old new turn put h t m g (subst (λ (k : ℕ). Nests k turn) e n)

    module _ (Lacks : List ℕ → List ℕ → Type 0) where
      -- ---- why the text isn't whole

      pub kept : (reason told : Incomplete) → IsKept reason told → Stops Finds Lacks path text reason → Stops Finds Lacks path text told
      kept reason told (inl e) h = subst (Stops Finds Lacks path text) (sym e) h
      kept reason told (inr e) h = subst (Stops Finds Lacks path text) (sym e) tt

      stopped : (opened : ℕ) (beside left : List ℕ) (reason : Incomplete) → Reaches Finds path text opened beside left → StopsAt Finds Lacks opened beside left reason
          → IsStopped Finds Lacks path text reason
      stopped opened beside left reason h wrong = record { opened = opened; beside = beside; left = left; reached = h; wrong = wrong }

      -- a turn isn't done
      turn_stops : (old : Frame) (said : List Piece) (text_now : List ℕ) (opened : ℕ) (reason : Incomplete) → text_now ≡ text_of said → IsAt opened old
          → ((more : List Piece) → PutsFrom Finds old more → Puts Finds path text (said ++ more)) → StopsIn Finds Lacks old text_now reason → Stops Finds Lacks path text reason
      turn_stops old said now opened NoMemory is h puts wrong = tt
      turn_stops old said now opened (NoFile name) is h puts wrong = stopped opened old.path.items (left_in old) (NoFile name) h.0 (wrong opened)
      turn_stops old said now opened TooDeep is h puts wrong = absurd wrong
      turn_stops old said now opened TooLong is h puts wrong =
          (said ++ wrong.0, puts wrong.0 wrong.1, omega (arith, wrong.2, ap length is, ap length (text-append said wrong.0), length-append now (text_of wrong.0), length-append (text_of said) (text_of wrong.0)))
      turn_stops old said now opened Syntax is h puts wrong = stopped opened old.path.items (left_in old) Syntax h.0 (wrong opened h.1)

      pub stops_there : (frames : List Frame) (old : Frame) (said : List Piece) (text_now : List ℕ) (reason told : Incomplete) → text_now ≡ text_of said → AreReached 1 (frames ++ old ∷ [])
          → ((more : List Piece) → PutsFrom Finds old more → Puts Finds path text (said ++ more)) → StopsIn Finds Lacks old text_now reason → IsKept reason told → Stops Finds Lacks path text told
      stops_there frames old said now reason told is h puts wrong keeps =
          kept reason told keeps (turn_stops old said now (1 + length frames) reason is (innermost frames old h) puts wrong)

      -- one file more can't be opened
      stuck : (old new : Frame) (turn : Turn) (opened : ℕ) (reason : Incomplete) → Reaches Finds path text opened old.path.items (left_in old) → Moves Finds old new turn → IsStuck opened turn reason
          → Stops Finds Lacks path text reason
      stuck old new End opened reason r m h = absurd h
      stuck old new Again opened reason r m h = subst (Stops Finds Lacks path text) (sym h) tt
      stuck old new (Into found) opened NoMemory r m h = tt
      stuck old new (Into found) opened TooLong r m h = absurd h
      stuck old new (Into found) opened Syntax r m h = absurd h
      stuck old new (Into found) opened (NoFile name) r m h = absurd h
      stuck old new (Into found) opened TooDeep r m h =
          stopped opened old.path.items (left_in old) TooDeep r (m.0, found, record { before = m.1.before; rest = left_in new; next = m.1.next }, m.1.finds, h)

      pub stuck_there : (frames : List Frame) (old new : Frame) (turn : Turn) (reason told : Incomplete) → AreReached 1 (frames ++ old ∷ []) → Moves Finds old new turn
          → IsStuck (length frames + 1) turn reason → IsKept reason told → Stops Finds Lacks path text told
      stuck_there frames old new turn reason told h m wrong keeps =
          let e : 1 + length frames ≡ length frames + 1 = omega arith in
          kept reason told keeps
          (stuck old new turn (length frames + 1) reason (subst (λ (k : ℕ). Reaches Finds path text k old.path.items (left_in old)) e (innermost frames old h).0) m wrong)
