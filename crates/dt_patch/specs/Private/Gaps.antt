-- The room that a change of the structure block needs.
use Rattle.std.specs.Prelude.{◌≡◌, ℕ, ◌+◌, ◌-◌, ◌≤◌, ◌^◌, max}
use Rattle.dt_patch.specs.declared.layout.Layout.{Layout}
use Rattle.dt_patch.specs.declared.splicing.Gap.{Gap}
use Rattle.dt_patch.specs.declared.splicing.Plan.{Plan}

-- the blocks stand apart in a blob that has so many bytes of room, and the span inside the structure block
pub record AreApart (p : Plan) (room : ℕ) : Type 0 where
  pub first : p.span.at ≤ p.span.next
  pub inside : p.span.next ≤ p.layout.structure_size
  pub apart : p.layout.structure_at + p.layout.structure_size ≤ p.layout.strings_at
  pub strings : p.layout.strings_at + p.layout.strings_size ≤ p.layout.size
  pub whole : p.layout.size ≤ room
  pub bounded : room ≤ 2 ^ 28

-- how many bytes are wanted where so many take the place of the span, and others are added to the strings
abbrev pub wanted : Plan → ℕ → ℕ → ℕ
wanted p size added = p.layout.strings_at + p.layout.strings_size - (p.span.next - p.span.at) + size + added

-- where the blocks stand then
abbrev pub laid : Plan → ℕ → ℕ → Layout
laid p size added =
    let old = p.span.next - p.span.at in
    record {
      size = max p.layout.size (wanted p size added);
      structure_at = p.layout.structure_at;
      structure_size = p.layout.structure_size - old + size;
      strings_at = p.layout.strings_at - old + size;
      strings_size = p.layout.strings_size + added;
    }

pub record IsGap (p : Plan) (size added room : ℕ) (g : Gap) : Type 0 where
  pub at : g.at ≡ p.layout.structure_at + p.span.at
  pub next : g.next ≡ p.layout.structure_at + p.span.next
  pub end : g.end ≡ p.layout.strings_at + p.layout.strings_size
  pub fits : wanted p size added ≤ room
  pub layout : g.layout ≡ laid p size added
