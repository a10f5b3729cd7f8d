-- What is put so far are pieces that, with what the open files still come to, are what the text comes to; each open file is at a place
-- that reading comes to, once those that are open in it are read; the pieces begin what the text comes to; and the text grows by each
-- turn, and isn't too long once all is read.
use Rattle.std.proofs.Common.{◌≡◌, ◌≤◌, [], List, length}
use Rattle.dt_text.specs.Lexeme.Limits.{text_limit}
use Rattle.dt_text.specs.Include.Inclusion.{IsWhole, Piece}
use Rattle.dt_text.proofs.IncludeLemmas.OpenFiles.{IsUnderWay}
use Rattle.dt_text.proofs.IncludeLemmas.Putting.{ArePut, IsCounted}
use Rattle.dt_text.proofs.IncludeLemmas.Reaching.{AreReached}
use Rattle.dt_text.proofs.include.inclusion.included.Given as goal

abbrev pub invariant-turns : goal.invariant-turns
invariant-turns g l = record {
  said : List Piece;
  whole : IsWhole l.whole said;
  under_way : IsUnderWay g.F.Files.finds l.path l.text l.frames.items said;
  reached : AreReached g.F.Files.finds l.path l.text 1 l.frames.items;
  put : ArePut g.F.Files.finds l.path l.text said l.frames.items;
  counted : IsCounted l.counter l.whole.text.items l.frames.items;
  short : l.frames.items ≡ [] → length l.whole.text.items ≤ text_limit;
}
