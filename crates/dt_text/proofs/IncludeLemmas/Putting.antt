-- What is put so far begins what the text comes to, turn by turn, and how long it is.
use Rattle.std.proofs.Common.{Global, ◌≡◌, ℕ, zero, suc, ◌+◌, ◌*◌, ◌-◌, ◌<◌, ◌≤◌, Bool, true, false, eqb, List, [], ◌∷◌, ◌++◌, length, drop, refl, sym, ap, subst, ◌∙◌, arith}
use Rattle.std.specs.Prelude.{Vec, if◌then◌else◌, codes}
use Rattle.std.specs.Fmt.{decimal}
use Rattle.std.proofs.lemmas.Bool.{eqb-true}
use Rattle.std.proofs.lemmas.List.{append-nil, append_assoc, length-append}
use denote.Ref.{Bor}
use Rattle.dt_text.specs.Lexeme.Limits.{text_limit}
use Rattle.dt_text.specs.declared.include.inclusion.Found.{Found}
use Rattle.dt_text.specs.declared.include.inclusion.Frame.{Frame}
use Rattle.dt_text.specs.declared.include.inclusion.Turn.{Turn}
use Rattle.dt_text.specs.declared.include.inclusion.Turn.TheVariants.{Again, End, Into}
use Rattle.dt_text.specs.declared.include.inclusion.Whole.{Whole}
use Rattle.dt_text.specs.declared.include.words.Inclusion.{Inclusion}
use Rattle.dt_text.specs.declared.include.words.Inclusion.TheVariants.{Binary, Source}
use Rattle.dt_text.specs.Include.Inclusion.{Includes, Piece, itself, named, plain, text_of}
use Rattle.dt_text.specs.Include.Private.Included.{Adds, Behind, Completes, Goes, IsPassed, IsTaken, IsTurned, PassedBy, PutsFrom, PutsTo, TurnsTo, behind_words, first_marker, first_put, not_yet, passed_text, stands_for, stay, wanting, words_of}
use Rattle.dt_text.specs.Include.Shortfall.{IsTooLong, Puts, before_words, file, inside, nothing, past_binary, past_source, whole}
use Rattle.dt_text.specs.Include.UserLines.{UserPlace, marker_line, plain_of}
use Rattle.dt_text.specs.Include.Words.{HasNext, MayEnd, name_of}
use Rattle.dt_text.proofs.IncludeLemmas.OpenFiles.{Reading, all_of, before-five, before-four, before-three, binary_turns, done, ended, found_by, left_of, long_words, no_files, path_of, put_by, reached_place, rest_of, some_words, source_turns, split, stands}
use Rattle.dt_text.proofs.IncludeLemmas.Pieces.{adds_both, text-append}
use Rattle.dt_text.proofs.IncludeLemmas.Reaching.{again_before, comes_to, ended_before, into_before, left_in, next_words}

-- ---- lengths

marker_long : (line : ℕ) (path : List ℕ) → 2 ≤ length (marker_line line path)
marker_long line path = omega (arith, length-append (codes "\n# " ++ decimal line ++ codes " \"" ++ path) (codes "\"\n"))

plain_long : (text : List ℕ) → length (text_of (plain text)) ≡ length text
plain_long text = omega (arith, length-append text [])

most_wanting : (frame : Frame) → wanting frame ≤ 2
most_wanting frame = by (eqb frame.words.end 0) refl
  where
    by : (b : Bool) → eqb frame.words.end 0 ≡ b → wanting frame ≤ 2
    by true e = rw e (omega arith)
    by false e = rw e (omega arith)

none_wanting : (frame : Frame) → 0 < frame.words.end → 2 ≤ length (passed_text frame) → wanting frame ≡ 0
none_wanting frame lt long = by (eqb frame.words.end 0) refl
  where
    by : (b : Bool) → eqb frame.words.end 0 ≡ b → wanting frame ≡ 0
    by true e = absurd (omega (arith, lt, eqb-true frame.words.end 0 e))
    by false e = rw e (omega (arith, long))

enough_by : (n : ℕ) (b : Bool) (text : List ℕ) (put : List Piece) → eqb n 0 ≡ b → PassedBy n text put → 2 ≤ length (text_of put) + (if b then 2 else 2 - length text)
enough_by n true text put e h = omega arith
enough_by zero false text put e h = absurd (cc e)
enough_by (suc n) false text put e h = omega (arith, ap (λ (p : List Piece). length (text_of p)) h, plain_long text)

enough : (old : Frame) (put : List Piece) → Behind old put → 2 ≤ length (text_of put) + wanting old
enough old put h = enough_by old.words.end (eqb old.words.end 0) (passed_text old) put refl h

-- what a turn puts is put of the file
module _ (Finds : List ℕ → List ℕ → Found → Type 0) (old frame : Frame) (text passed : Whole) (p : IsPassed old frame text passed) where
  from : (more : List Piece) → Puts Finds old.path.items (left_in old) more → PutsFrom Finds old (p.put ++ more)
  from more h = behind_words p.put more p.behind h

  enough_with : (more : List Piece) → 2 ≤ length (text_of (p.put ++ more)) + wanting old
  enough_with more = omega (arith, enough old p.put p.behind, ap length (text-append p.put more), length-append (text_of p.put) (text_of more))

module _ (Finds : List ℕ → List ℕ → Found → Type 0) where
  -- ---- one turn

  module _ (old frame new : Frame) (inclusion : Inclusion) (text passed : Whole) (r : Reading old frame new inclusion text passed) where
    abbrev place : UserPlace
    place = reached_place old frame new inclusion text passed r

    next : HasNext (left_in old) inclusion r.before (left_in new)
    next = next_words old frame new inclusion text passed r

    beyond_words : (more : List Piece) → Puts Finds new.path.items (left_in new) more → Puts Finds old.path.items (left_in new) more
    beyond_words more h = subst (λ (q : Vec ℕ Global). Puts Finds q.items (left_in new) more) (sym (path_of old frame new inclusion text passed r)) h

    passed_is : (put : List Piece) → Behind new put → put ≡ plain (stands_for (stay inclusion) (words_of new) place)
    passed_is put b = put_by new.words.end (passed_text new) put (some_words old frame new inclusion text passed r) b ∙ ap plain (stands old frame new inclusion text passed r)

    none_wanted : 2 ≤ length (stands_for (stay inclusion) (words_of new) place) → wanting new ≡ 0
    none_wanted long =
        none_wanting new (some_words old frame new inclusion text passed r) (omega (arith, long, ap length (stands old frame new inclusion text passed r)))

    words_stand : r.before ++ words_of new ++ left_in new ≡ left_in old
    words_stand =
        ap (λ (t : List ℕ). r.before ++ words_of new ++ t) (rest_of old frame new inclusion text passed r) ∙ all_of old frame new inclusion text passed r
        ∙ sym (left_of old frame new inclusion text passed r)

  -- ---- a source

  module _ (old frame new : Frame) (name : Bor (List ℕ)) (found : Found) (text passed : Whole) (r : Reading old frame new (Source name) text passed) (f : Finds frame.path.items name.now found) where
    abbrev put : List Piece
    put = r.passed_is.put ++ plain r.before

    abbrev first : List Piece
    first = first_marker found

    there : Finds old.path.items name.now found
    there = found_by old frame new (Source name) text passed r Finds name.now found f

    within : (more : List Piece) → Puts Finds found.path.items found.bytes.items more → PutsFrom Finds old (put ++ first ++ more)
    within more h =
        subst (PutsFrom Finds old) (before-three r.passed_is.put (plain r.before) first more)
        (from Finds old frame text passed r.passed_is (plain r.before ++ first ++ more) (inside name found (next old frame new (Source name) text passed r) there h))

    beyond : (inner more : List Piece) → Includes Finds true found.path.items found.bytes.items inner → PutsFrom Finds new more → PutsFrom Finds old (put ++ first ++ inner ++ more)
    beyond inner more i not_yet = subst (PutsFrom Finds old) (sym (append-nil (put ++ first ++ inner))) (within inner (whole i))
    beyond inner more i (behind_words before rest b h) =
        let at = reached_place old frame new (Source name) text passed r in
        let last = plain (marker_line at.line at.file) in
        let all = past_source name found at.line at.file (next old frame new (Source name) text passed r) there i (beyond_words old frame new (Source name) text passed r rest h) in
        subst (PutsFrom Finds old)
        (before-five r.passed_is.put (plain r.before) first inner last rest ∙ ap (λ (u : List Piece). put ++ first ++ inner ++ (u ++ rest)) (sym (passed_is old frame new (Source name) text passed r before b)))
        (from Finds old frame text passed r.passed_is (plain r.before ++ first ++ inner ++ last ++ rest) all)

    source_turned : (taken grown : Whole) → Adds passed taken (plain r.before) → Adds taken grown [] → IsTurned Finds old text new grown (Into found)
    source_turned taken grown h k =
        let at = reached_place old frame new (Source name) text passed r in
        record {
          put = put;
          adds =
              subst (Adds text grown) (append-nil put)
              (adds_both text taken grown put [] (adds_both text passed taken r.passed_is.put (plain r.before) r.passed_is.grown_is h) k);
          turns = source_turns Finds old frame new name found text passed r f;
          puts = (from Finds old frame text passed r.passed_is (plain r.before) (before_words (Source name) (next old frame new (Source name) text passed r)), within, beyond);
          enough = enough_with Finds old frame text passed r.passed_is (plain r.before);
          past = none_wanted old frame new (Source name) text passed r (marker_long at.line at.file);
        }

  -- ---- a binary file

  module _ (old frame new : Frame) (name : Bor (List ℕ)) (found : Found) (text passed : Whole) (r : Reading old frame new (Binary name) text passed) (f : Finds frame.path.items (name_of (Binary name)) found) where
    abbrev bytes : List Piece
    bytes = named found.bytes.items

    abbrev put_with : List Piece
    put_with = r.passed_is.put ++ plain r.before ++ bytes

    found_there : Finds old.path.items (name_of (Binary name)) found
    found_there = found_by old frame new (Binary name) text passed r Finds (name_of (Binary name)) found f

    put_bytes : PutsFrom Finds old put_with
    put_bytes =
        subst (PutsFrom Finds old) (sym (append_assoc r.passed_is.put (plain r.before) bytes))
        (from Finds old frame text passed r.passed_is (plain r.before ++ bytes) (file name found (next old frame new (Binary name) text passed r) found_there))

    behind_bytes : (more : List Piece) → PutsFrom Finds new more → PutsFrom Finds old (put_with ++ more)
    behind_bytes more not_yet = subst (PutsFrom Finds old) (sym (append-nil put_with)) put_bytes
    behind_bytes more (behind_words before rest b h) =
        let words = plain (words_of new) in
        let all = past_binary name found (words_of new) (next old frame new (Binary name) text passed r) (words_stand old frame new (Binary name) text passed r) found_there
        (beyond_words old frame new (Binary name) text passed r rest h) in
        subst (PutsFrom Finds old)
        (before-four r.passed_is.put (plain r.before) bytes words rest ∙ ap (λ (u : List Piece). put_with ++ (u ++ rest)) (sym (passed_is old frame new (Binary name) text passed r before b)))
        (from Finds old frame text passed r.passed_is (plain r.before ++ bytes ++ words ++ rest) all)

    binary_turned : (taken grown : Whole) → Adds passed taken (plain r.before) → Adds taken grown bytes → IsTurned Finds old text new grown Again
    binary_turned taken grown h k = record {
      put = put_with;
      adds = adds_both text taken grown (r.passed_is.put ++ plain r.before) bytes (adds_both text passed taken r.passed_is.put (plain r.before) r.passed_is.grown_is h) k;
      turns = binary_turns Finds old frame new name found text passed r f;
      puts = (put_bytes, behind_bytes);
      enough =
          let some = enough_with Finds old frame text passed r.passed_is (plain r.before) in
          omega (arith, some, ap length (text-append (r.passed_is.put ++ plain r.before) bytes), length-append (text_of (r.passed_is.put ++ plain r.before)) (text_of bytes));
      past =
          let long = long_words old frame new (Binary name) text passed r in
          none_wanted old frame new (Binary name) text passed r (omega (arith, long));
    }

  by_turn : (old frame new : Frame) (inclusion : Inclusion) (turn : Turn) (text passed taken grown : Whole) (r : Reading old frame new inclusion text passed)
      → Adds passed taken (plain r.before) → IsTaken Finds frame.path.items inclusion taken grown turn → IsTurned Finds old text new grown turn
  by_turn old frame new (Source name) End text passed taken grown r is h = absurd h
  by_turn old frame new (Binary name) End text passed taken grown r is h = absurd h
  by_turn old frame new (Source name) Again text passed taken grown r is h = absurd h
  by_turn old frame new (Binary name) (Into found) text passed taken grown r is h = absurd h
  by_turn old frame new (Source name) (Into found) text passed taken grown r is h = source_turned old frame new name found text passed r h.0 taken grown is h.1
  by_turn old frame new (Binary name) Again text passed taken grown r is h = binary_turned old frame new name h.0 text passed r h.1 taken grown is h.2

  pub turned : (old frame new : Frame) (inclusion : Inclusion) (turn : Turn) (text passed taken grown : Whole) (beside : List ℕ) (r : Reading old frame new inclusion text passed)
      → Adds passed taken (plain r.before) → beside ≡ frame.path.items → IsTaken Finds beside inclusion taken grown turn → IsTurned Finds old text new grown turn
  turned old frame new inclusion turn text passed taken grown beside r is same h =
      by_turn old frame new inclusion turn text passed taken grown r is (subst (λ (b : List ℕ). IsTaken Finds b inclusion taken grown turn) same h)

  -- the file ends
  pub end_turned : (old frame : Frame) (text passed grown : Whole) (left : List ℕ) → IsPassed old frame text passed → left ≡ left_in frame → MayEnd frame.nested left → Adds passed grown (plain left)
      → IsTurned Finds old text frame grown End
  end_turned old frame text passed grown left p is h k =
      let same : left ≡ left_in old =
      is ∙ ap (λ w. drop w.end frame.bytes.items) p.words_is ∙ ap (λ (b : Vec ℕ Global). drop old.words.end b.items) p.bytes_is in
      record {
        put = p.put ++ plain left;
        adds = adds_both text passed grown p.put (plain left) p.grown_is k;
        turns = ended Finds old frame text passed left p is h;
        puts = from Finds old frame text passed p (plain left) (subst (λ (u : List ℕ). Puts Finds old.path.items u (plain left)) same (whole {nested = frame.nested} (itself h)));
        enough = enough_with Finds old frame text passed p (plain left);
        past = tt;
      }

  -- the text before the words is too long
  pub long_before : (old frame new : Frame) (inclusion : Inclusion) (text passed taken : Whole) (r : Reading old frame new inclusion text passed) → Adds passed taken (plain r.before)
      → IsTooLong taken.text.items → (put : List Piece) × PutsFrom Finds old put × IsTooLong (text.text.items ++ text_of put)
  long_before old frame new inclusion text passed taken r is long =
      let put = r.passed_is.put ++ plain r.before in
      let all = adds_both text passed taken r.passed_is.put (plain r.before) r.passed_is.grown_is is in
      (put, from Finds old frame text passed r.passed_is (plain r.before) (before_words inclusion (next old frame new inclusion text passed r)), subst IsTooLong all.text long)

  -- ---- a file that was just opened

  just_put : (frame : Frame) (beside all : List ℕ) (more : List Piece) → frame.words.end ≡ 0 → frame.path.items ≡ beside → frame.bytes.items ≡ all → PutsFrom Finds frame more → Puts Finds beside all more
  just_put frame beside all more none same_path same_bytes not_yet = nothing
  just_put frame beside all more none same_path same_bytes (behind_words before rest b h) =
      let e : rest ≡ before ++ rest = ap (λ (u : List Piece). u ++ rest) (sym (by frame.words.end none before b)) in
      let here : left_in frame ≡ all = ap (λ (n : ℕ). drop n frame.bytes.items) none ∙ same_bytes in
      subst (Puts Finds beside all) e (subst (λ (u : List ℕ). Puts Finds beside u rest) here (subst (λ (u : List ℕ). Puts Finds u (left_in frame) rest) same_path h))
    where
      by : (n : ℕ) → n ≡ 0 → (put : List Piece) → PassedBy n (passed_text frame) put → put ≡ []
      by zero e put b = b
      by (suc n) e put b = absurd (omega (arith, e))

  -- ---- the stack

  module _ (path source : List ℕ) where
    -- What is put so far, what the files come to that are open in a file, and what is put of it then, is put of the text.
    unfoldable pub ArePut : List Piece → List Frame → Type 0
    ArePut said [] = Unit {0}
    ArePut said (frame ∷ frames) =
        ((inner more : List Piece) → Completes Finds frames inner → PutsFrom Finds frame more → Puts Finds path source (said ++ (inner ++ more))) × ArePut said frames

    changed : (said last add : List Piece) (frames old new : List Frame) → last ≡ said ++ add
        → ((outer : List Frame) (after : List Piece) → Completes Finds (outer ++ new) after → Completes Finds (outer ++ old) (add ++ after)) → ArePut said (frames ++ old) → ArePut last new
        → ArePut last (frames ++ new)
    unfolding ArePut
    changed said last add [] old new is step h k = k
    changed said last add (f ∷ frames) old new is step h k = (
      λ inner more c q.
          let e : said ++ (add ++ inner ++ more) ≡ last ++ (inner ++ more) =
          ap (λ (u : List Piece). said ++ u) (append_assoc add inner more) ∙ sym (append_assoc said add (inner ++ more)) ∙ ap (λ (u : List Piece). u ++ (inner ++ more)) (sym is) in
          subst (Puts Finds path source) e (h.0 (add ++ inner) more (step frames inner c) q),
      changed said last add frames old new is step h.1 k,
    )

    within_put : (said : List Piece) (outer inner : List Frame) → ArePut said (outer ++ inner) → ArePut said inner
    unfolding ArePut
    within_put said [] inner h = h
    within_put said (f ∷ outer) inner h = within_put said outer inner h.1

    -- in the innermost file
    pub innermost_put : (said : List Piece) (frames : List Frame) (frame : Frame) → ArePut said (frames ++ frame ∷ []) → (more : List Piece) → PutsFrom Finds frame more → Puts Finds path source (said ++ more)
    unfolding ArePut
    innermost_put said frames frame h more q = (within_put said frames (frame ∷ []) h).0 [] more (no_files Finds) q

    one : (said : List Piece) (frame : Frame) → ((more : List Piece) → PutsFrom Finds frame more → Puts Finds path source (said ++ more)) → ArePut said (frame ∷ [])
    unfolding ArePut
    one said frame h = (λ inner more c q. subst (λ (u : List Piece). Puts Finds path source (said ++ (u ++ more))) (sym (done Finds inner c)) (h more q), tt)

    two : (said : List Piece) (outer inner : Frame) → ((put more : List Piece) → Completes Finds (inner ∷ []) put → PutsFrom Finds outer more → Puts Finds path source (said ++ (put ++ more)))
        → ((more : List Piece) → PutsFrom Finds inner more → Puts Finds path source (said ++ more)) → ArePut said (outer ∷ inner ∷ [])
    unfolding ArePut
    two said outer inner h k = (h, one said inner k)

    nothing_open : (said : List Piece) → ArePut said []
    unfolding ArePut
    nothing_open said = tt

    pub begun_put : (frames : List Frame) (frame : Frame) → frames ≡ frame ∷ [] → frame.words.end ≡ 0 → frame.path.items ≡ path → frame.bytes.items ≡ source → ArePut [] frames
    begun_put frames frame is words same_path same_bytes =
        subst (ArePut []) (sym is) (one [] frame (λ more q. just_put frame path source more words same_path same_bytes q))

    pub gone_put : (frames now : List Frame) (old new : Frame) (turn : Turn) (said put last : List Piece) → last ≡ said ++ put ++ first_put turn → ArePut said (frames ++ old ∷ []) → TurnsTo Finds old new turn put
        → PutsTo Finds old new turn put → Goes frames new turn now → ArePut last now
    gone_put frames now old new End said put last is h t w g =
        subst (ArePut last) (append-nil frames ∙ sym g) (changed said last put frames (old ∷ []) [] (is ∙ append-nil (said ++ put)) (λ outer after k. ended_before Finds outer old put after t k) h (nothing_open last))
    gone_put frames now old new Again said put last is h t w g =
        let place : (more : List Piece) → PutsFrom Finds new more → Puts Finds path source (last ++ more) = λ more q.
        let e : said ++ (put ++ more) ≡ last ++ more = sym (append_assoc said put more) ∙ ap (λ (u : List Piece). u ++ more) (sym (is ∙ append-nil (said ++ put))) in
        subst (Puts Finds path source) e (innermost_put said frames old h (put ++ more) (w.1 more q)) in
        subst (ArePut last) (sym g) (changed said last put frames (old ∷ []) (new ∷ []) (is ∙ append-nil (said ++ put)) (λ outer after k. again_before Finds outer old new put after t k) h (one last new place))
    gone_put frames now old new (Into found) said put last is h t w g =
        let all = put ++ first_marker found in
        let last_is : said ++ all ≡ last = sym (append_assoc said put (first_marker found)) ∙ sym is in
        let outer_place : (inner more : List Piece) → Completes Finds (g.inner ∷ []) inner → PutsFrom Finds new more → Puts Finds path source (last ++ (inner ++ more)) = λ inner more k q.
        let s = split Finds [] g.inner inner k in
        let own : s.0 ≡ inner = sym (append-nil s.0) ∙ ap (λ (u : List Piece). s.0 ++ u) (sym (done Finds s.1 s.3)) ∙ sym s.4 in
        let e : said ++ (all ++ s.0 ++ more) ≡ last ++ (inner ++ more) =
        ap (λ (u : List Piece). said ++ u) (append_assoc all s.0 more) ∙ sym (append_assoc said all (s.0 ++ more)) ∙ ap (λ (u : List Piece). u ++ (s.0 ++ more)) last_is ∙ ap (λ (u : List Piece). last ++ (u ++ more)) own in
        subst (Puts Finds path source) e (innermost_put said frames old h (all ++ s.0 ++ more) (w.2 s.0 more (comes_to Finds g.inner found s.0 g.path_is g.nested_is g.bytes_is g.words_is g.line_is s.2) q)) in
        let inner_place : (more : List Piece) → PutsFrom Finds g.inner more → Puts Finds path source (last ++ more) = λ more q.
        let e : said ++ (all ++ more) ≡ last ++ more = sym (append_assoc said all more) ∙ ap (λ (u : List Piece). u ++ more) last_is in
        let start = just_put g.inner found.path.items found.bytes.items more g.words_is (ap (λ (v : Vec ℕ Global). v.items) g.path_is) (ap (λ (v : Vec ℕ Global). v.items) g.bytes_is) q in
        subst (Puts Finds path source) e (innermost_put said frames old h (all ++ more) (w.1 more start)) in
        subst (ArePut last) (sym (g.opened_is ∙ append_assoc frames (new ∷ []) (g.inner ∷ [])))
        (changed said last all frames (old ∷ []) (new ∷ g.inner ∷ []) (sym last_is)
        (λ outer after k. into_before Finds outer old new g.inner found put after t (λ own. comes_to Finds g.inner found own g.path_is g.nested_is g.bytes_is g.words_is g.line_is) k) h (two last new g.inner outer_place inner_place))

    -- all that is put so far
    pub put_now : (said : List Piece) (frames : List Frame) → ArePut said frames → (frames ≡ [] → Includes Finds false path source said) → Puts Finds path source said
    unfolding ArePut
    put_now said [] h over = whole (over refl)
    put_now said (f ∷ []) h over = subst (Puts Finds path source) (append-nil said) (h.0 [] [] (no_files Finds) not_yet)
    put_now said (f ∷ g ∷ frames) h over = put_now said (g ∷ frames) h.1 (λ e. absurd (cc e))

    -- what a turn puts is put of the text
    pub grown_put : (frames : List Frame) (old new : Frame) (turn : Turn) (said put : List Piece) → ArePut said (frames ++ old ∷ []) → PutsTo Finds old new turn put → Puts Finds path source (said ++ put)
    grown_put frames old new turn said put h w = innermost_put said frames old h put (own turn w)
      where
        own : (turn : Turn) → PutsTo Finds old new turn put → PutsFrom Finds old put
        own End q = q
        own Again q = q.0
        own (Into found) q = q.0

-- ---- how long it is: each turn puts two bytes at least, or the file's first line marker did

abbrev pub all_wanting : List Frame → ℕ
all_wanting [] = 0
all_wanting (frame ∷ frames) = wanting frame + all_wanting frames

wanting_both : (xs ys : List Frame) → all_wanting (xs ++ ys) ≡ all_wanting xs + all_wanting ys
wanting_both [] ys = omega arith
wanting_both (x ∷ xs) ys = omega (arith, wanting_both xs ys)

-- so many turns are done
abbrev pub IsCounted : ℕ → List ℕ → List Frame → Type 0
IsCounted turns text frames = 2 * turns + all_wanting frames ≤ length text + 2

pub begun_count : (frames : List Frame) (frame : Frame) (text : List ℕ) → frames ≡ frame ∷ [] → IsCounted 0 text frames
begun_count frames frame text is = omega (arith, ap all_wanting is, most_wanting frame)

grown_long : (old new : Whole) (put : List Piece) → Adds old new put → length new.text.items ≡ length old.text.items + length (text_of put)
grown_long old new put h = omega (arith, ap length h.text, length-append old.text.items (text_of put))

module _ (Finds : List ℕ → List ℕ → Found → Type 0) where
  pub gone_count : (frames now : List Frame) (old new : Frame) (turn : Turn) (turns : ℕ) (text grown last : Whole) → IsCounted turns text.text.items (frames ++ old ∷ [])
      → IsTurned Finds old text new grown turn → Goes frames new turn now → Adds grown last (first_put turn) → IsCounted (turns + 1) last.text.items now
  gone_count frames now old new End turns text grown last h w g k =
      omega (arith, h, wanting_both frames (old ∷ []), w.enough, grown_long text grown w.put w.adds, grown_long grown last [] k, ap all_wanting g)
  gone_count frames now old new Again turns text grown last h w g k =
      omega (arith, h, wanting_both frames (old ∷ []), w.enough, grown_long text grown w.put w.adds, grown_long grown last [] k, ap all_wanting g, wanting_both frames (new ∷ []), w.past)
  gone_count frames now old new (Into found) turns text grown last h w g k =
      omega (
        arith,
        h,
        wanting_both frames (old ∷ []),
        w.enough,
        grown_long text grown w.put w.adds,
        grown_long grown last (first_marker found) k,
        plain_long (marker_line 1 (plain_of found.path.items)),
        marker_long 1 (plain_of found.path.items),
        ap all_wanting g.opened_is,
        wanting_both (frames ++ new ∷ []) (g.inner ∷ []),
        wanting_both frames (new ∷ []),
        w.past,
        most_wanting g.inner,
      )

pub counted_long : (turns : ℕ) (text : List ℕ) (frames : List Frame) → 16777217 ≤ turns → IsCounted turns text frames → IsTooLong text
counted_long turns text frames all h = omega (arith, all, h)

-- ---- where no file is open, the text isn't too long

some_open : (all frames : List Frame) (frame : Frame) → all ≡ frames ++ frame ∷ [] → all ≡ [] → ⊥
some_open all frames frame is none = omega (arith, ap length is, ap length none, length-append frames (frame ∷ []))

pub begun_short : (frames : List Frame) (frame : Frame) (text : List ℕ) → frames ≡ frame ∷ [] → frames ≡ [] → length text ≤ text_limit
begun_short frames frame text is none = absurd (some_open frames [] frame is none)

pub gone_short : (frames now : List Frame) (new : Frame) (turn : Turn) (grown last : Whole) → length grown.text.items ≤ text_limit → Goes frames new turn now → Adds grown last (first_put turn) → now ≡ []
    → length last.text.items ≤ text_limit
gone_short frames now new End grown last h g k none = omega (arith, h, grown_long grown last [] k)
gone_short frames now new Again grown last h g k none = absurd (some_open now frames new g none)
gone_short frames now new (Into found) grown last h g k none = absurd (some_open now (frames ++ new ∷ []) g.inner g.opened_is none)
