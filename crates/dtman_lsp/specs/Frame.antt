-- Messages in a stream (Language Server Protocol 3.17, "Base Protocol").
use Rattle.std.specs.Prelude.{ℕ, List, ◌++◌, codes, decimal, length}

-- a message behind its header: "Content-Length: ", its length in decimal, and an empty line
abbrev pub frame_of : List ℕ → List ℕ
frame_of body = codes "Content-Length: " ++ decimal (length body) ++ codes "\r\n\r\n" ++ body
