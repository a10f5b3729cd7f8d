-- What a comparison says: whether nothing differs.
use Rattle.std.specs.Prelude.{Bool, ◌&&◌, ◌==◌, length}
use Rattle.dtman_blobs.specs.declared.difference.comparing.Comparison.{Comparison}

abbrev pub is_same : Comparison → Bool
is_same c = c.same_reserves && (c.same_boot_cpu && length c.differences.items == 0)
