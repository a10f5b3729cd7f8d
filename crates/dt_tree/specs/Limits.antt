-- How deep a tree and how long a name may be. Both are this project's numbers: the Devicetree Specification v0.4 sets no
-- depth, and its names have at most 31 characters (sections 2.2.1 and 2.2.4.1), which sources in use exceed.
use Rattle.std.specs.Prelude.{ℕ}

-- the most levels of nodes below the root
abbrev pub depth_limit : ℕ
depth_limit = 64

-- the most bytes of a name
abbrev pub name_limit : ℕ
name_limit = 255
