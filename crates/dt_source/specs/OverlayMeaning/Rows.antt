-- Pairs of a base and an overlay, and what comes of them, worked by hand. `src/rows.rt` says that the definitions give the same.
use Rattle.std.specs.Prelude.{ℕ, List, [], ◌∷◌, ◌++◌, codes}
use Rattle.dt_source.specs.TreeMeaning.Paths.{Path}
use Rattle.dt_source.specs.TreeMeaning.Edits.{definition}
use Rattle.dt_source.specs.TreeMeaning.Resolved.{Resolved}
use Rattle.dt_source.specs.OverlayMeaning.Shifted.{Value}

abbrev pub cell : ℕ → List ℕ
cell n = 0 ∷ 0 ∷ 0 ∷ n ∷ []

abbrev ocp : Path
ocp = codes "ocp" ∷ []

abbrev d : List ℕ
d = codes "d"

abbrev e : List ℕ
e = codes "e"

abbrev r : List ℕ
r = codes "r"

abbrev f : List ℕ
f = codes "f"

abbrev g : List ℕ
g = codes "g"

abbrev x : List ℕ
x = codes "x"

abbrev phandle : List ℕ
phandle = codes "phandle"

abbrev target : List ℕ
target = codes "target"

abbrev has : Path → List ℕ → List ℕ → Value
has p n v = definition p n v

abbrev symbols : Path
symbols = codes "__symbols__" ∷ []

abbrev fixups : Path
fixups = codes "__fixups__" ∷ []

abbrev locals : List ℕ
locals = codes "__local_fixups__"

abbrev f0 : Path
f0 = codes "fragment@0" ∷ []

abbrev o0 : Path
o0 = codes "fragment@0" ∷ codes "__overlay__" ∷ []

abbrev f1 : Path
f1 = codes "fragment@1" ∷ []

abbrev o1 : Path
o1 = codes "fragment@1" ∷ codes "__overlay__" ∷ []

abbrev none : List ℕ
none = 255 ∷ 255 ∷ 255 ∷ 255 ∷ []

-- / { ocp: ocp { }; }; with symbols
abbrev pub base : Resolved
base = record { nodes = ocp ∷ symbols ∷ []; properties = has ocp phandle (cell 1) ∷ has symbols (codes "ocp") (codes "/ocp" ++ 0 ∷ []) ∷ [] }

-- &ocp { d { r = <&e>; }; e: e { }; }; with the phandle of e, the fixup's name and value, and the local fixup's
abbrev pub pair : List ℕ → List ℕ → List ℕ → List ℕ → List Value → Resolved
pair p l v w more = record {
  nodes = f0 ∷ o0 ∷ (o0 ++ d ∷ []) ∷ (o0 ++ e ∷ []) ∷ symbols ∷ fixups ∷ (locals ∷ []) ∷ (locals ∷ f0) ∷ (locals ∷ o0) ∷ (locals ∷ o0 ++ d ∷ []) ∷ [];
  properties = has f0 target none ∷ has (o0 ++ d ∷ []) r (cell 1) ∷ has (o0 ++ e ∷ []) phandle p
      ∷ more ++ has fixups l v ∷ has (locals ∷ o0 ++ d ∷ []) r w ∷ [];
}

abbrev at0 : List ℕ
at0 = codes "/fragment@0:target:0" ++ 0 ∷ []

abbrev pub fixed : List ℕ → List ℕ → Resolved
fixed l v = pair (cell 1) l (v ++ 0 ∷ []) (cell 0) []

abbrev pub overlay : Resolved
overlay = pair (cell 1) (codes "ocp") at0 (cell 0) []

abbrev pub with_symbols : Resolved
with_symbols = pair (cell 1) (codes "ocp") at0 (cell 0) (has symbols e (codes "/fragment@0/__overlay__/e" ++ 0 ∷ []) ∷ [])

abbrev result : List ℕ → List Value → Resolved
result n more = record {
  nodes = ocp ∷ symbols ∷ (ocp ++ d ∷ []) ∷ (ocp ++ e ∷ []) ∷ [];
  properties = has ocp phandle (cell 1) ∷ has symbols (codes "ocp") (codes "/ocp" ++ 0 ∷ []) ∷ has (ocp ++ d ∷ []) r (cell 3) ∷ has (ocp ++ e ∷ []) phandle n ∷ more;
}

abbrev pub applied : Resolved
applied = result (cell 3) []

abbrev pub applied_with_symbols : Resolved
applied_with_symbols = result (cell 3) (has symbols e (codes "/ocp/e" ++ 0 ∷ []) ∷ [])

abbrev pub great : ℕ → Resolved
great n = pair (255 ∷ 255 ∷ 255 ∷ n ∷ []) (codes "ocp") at0 (cell 0) []

abbrev pub greatest : Resolved
greatest = result (255 ∷ 255 ∷ 255 ∷ 254 ∷ []) []

abbrev pub cut : Resolved
cut = pair (cell 1) (codes "ocp") at0 (0 ∷ 0 ∷ 0 ∷ []) []

abbrev pub twice : Resolved
twice = pair (cell 1) (codes "ocp") (at0 ++ at0) (cell 0) []

-- &{/ocp} { f = <1>; }; and the same at a path that isn't there
abbrev pub by_path : List ℕ → Resolved
by_path p = record { nodes = f0 ∷ o0 ∷ []; properties = has f0 (codes "target-path") (p ++ 0 ∷ []) ∷ has o0 f (cell 1) ∷ [] }

abbrev pub by_path_applied : Resolved
by_path_applied = record { nodes = ocp ∷ symbols ∷ []; properties = has ocp phandle (cell 1) ∷ has symbols (codes "ocp") (codes "/ocp" ++ 0 ∷ []) ∷ has ocp f (cell 1) ∷ [] }

-- &ocp { f = <1>; g; }; &ocp { f = <2>; };
abbrev pub later : Resolved
later = record {
  nodes = f0 ∷ o0 ∷ f1 ∷ o1 ∷ fixups ∷ [];
  properties = has f0 target none ∷ has o0 f (cell 1) ∷ has o0 g [] ∷ has f1 target none ∷ has o1 f (cell 2)
      ∷ has fixups (codes "ocp") (at0 ++ codes "/fragment@1:target:0" ++ 0 ∷ []) ∷ [];
}

abbrev pub later_applied : Resolved
later_applied = record {
  nodes = ocp ∷ symbols ∷ [];
  properties = has ocp phandle (cell 1) ∷ has symbols (codes "ocp") (codes "/ocp" ++ 0 ∷ []) ∷ has ocp f (cell 2) ∷ has ocp g [] ∷ [];
}

-- &ocp { e: e { }; }; &e { x; };
abbrev pub extends : Resolved
extends = record { nodes = f0 ∷ o0 ∷ (o0 ++ e ∷ []) ∷ fixups ∷ []; properties = has f0 target none ∷ has (o0 ++ e ∷ []) x [] ∷ has fixups (codes "ocp") at0 ∷ [] }

abbrev pub extends_applied : Resolved
extends_applied = record {
  nodes = ocp ∷ symbols ∷ (ocp ++ e ∷ []) ∷ [];
  properties = has ocp phandle (cell 1) ∷ has symbols (codes "ocp") (codes "/ocp" ++ 0 ∷ []) ∷ has (ocp ++ e ∷ []) x [] ∷ [];
}

-- the two in the other order: fragment@0's target is e's phandle, which the base doesn't have
abbrev pub other_order : Resolved
other_order = record {
  nodes = f0 ∷ o0 ∷ f1 ∷ o1 ∷ (o1 ++ e ∷ []) ∷ fixups ∷ (locals ∷ []) ∷ (locals ∷ f0) ∷ [];
  properties = has f0 target (cell 1) ∷ has o0 x [] ∷ has f1 target none ∷ has (o1 ++ e ∷ []) phandle (cell 1)
      ∷ has fixups (codes "ocp") (codes "/fragment@1:target:0" ++ 0 ∷ []) ∷ has (locals ∷ f0) target (cell 0) ∷ [];
}

-- &ocp { phandle = <1>; };
abbrev pub renumbers : Resolved
renumbers = record { nodes = f0 ∷ o0 ∷ []; properties = has f0 (codes "target-path") (codes "/ocp" ++ 0 ∷ []) ∷ has o0 phandle (cell 1) ∷ [] }

-- two nodes with one phandle
abbrev pub equals : Resolved
equals = record { nodes = f0 ∷ o0 ∷ (o0 ++ d ∷ []) ∷ []; properties = has f0 phandle (cell 1) ∷ has (o0 ++ d ∷ []) phandle (cell 1) ∷ [] }

-- two local sites that overlap, and a number that is too great at one of them: which comes first is the answer
abbrev pub great_sites : List ℕ → Resolved
great_sites w = record {
  nodes = f0 ∷ o0 ∷ (locals ∷ []) ∷ (locals ∷ f0) ∷ [];
  properties = has f0 r (none ++ cell 1) ∷ has (locals ∷ f0) r w ∷ [];
}
