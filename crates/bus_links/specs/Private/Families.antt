-- The strings that the code asks for.
use Rattle.std.specs.Prelude.{ℕ, List}
use Rattle.bus_links.specs.Links.{skipped, reserved_memory, framebuffers}
use Rattle.bus_links.specs.declared.making.Family.{Family}
use Rattle.bus_links.specs.declared.making.Family.TheVariants.{Skipped, ReservedMemory, Framebuffers}

abbrev pub family_strings : Family → List (List ℕ)
family_strings Skipped = skipped
family_strings ReservedMemory = reserved_memory
family_strings Framebuffers = framebuffers
