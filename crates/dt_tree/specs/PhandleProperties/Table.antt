-- The properties whose values hold phandles, and what stands in each: phandles by the Devicetree Specification v0.4, section 2.3.3, interrupts by
-- section 2.4, specifiers of `#..-cells` by section 2.5; the properties themselves by the bindings of the Linux kernel
-- (Documentation/devicetree/bindings), and those that its driver core follows by drivers/of/property.c of Linux 6.1.
use Rattle.std.specs.Prelude.{ℕ, Bool, true, false, not, ◌&&◌, nat_eq, codes, List, [], ◌∷◌, Option}
use Rattle.std.specs.List.{find, ends_with}
use Rattle.std.specs.Str.{bytes_eq}

-- which properties a row is for: the one of this name, each whose name ends so, or each whose name ends in the first but not in the second
pub data Pattern : Type 0 where
  named : List ℕ → Pattern
  ending : List ℕ → Pattern
  ending_but : List ℕ → List ℕ → Pattern

-- what a value lists: phandles, each with as many cells behind it as the property of this name of its node says; the same, where entries may be
-- left empty; phandles alone; one phandle; one phandle, of the other end of a graph's edge; entries of four cells, the second of which is a phandle (`iommu-map`); interrupts that name
-- their controllers, or that don't
pub data Listing : Type 0 where
  counted : List ℕ → Listing
  sparse : List ℕ → Listing
  bare : Listing
  single : Listing
  endpoint : Listing
  mapped : Listing
  controllers : Listing
  lines : Listing

-- whether Linux makes a link of what a property names: never, always, or where links are strict
pub data Link : Type 0 where
  unlinked : Link
  needed : Link
  optional : Link

-- who reads a row beside the links of Linux: plans and whoever looks at values, the latter alone, or nobody
pub data Readers : Type 0 where
  plans_too : Readers
  values_alone : Readers
  nobody : Readers

pub record Row : Type 0 where
  pub pattern : Pattern
  pub listing : Listing
  pub readers : Readers
  pub link : Link

abbrev pub everywhere : Link → Pattern → Listing → Row
everywhere k p l = record { pattern = p; listing = l; readers = plans_too; link = k }

abbrev pub linked : Link → Pattern → Listing → Row
linked k p l = record { pattern = p; listing = l; readers = values_alone; link = k }

abbrev pub held : Pattern → Listing → Row
held p l = record { pattern = p; listing = l; readers = values_alone; link = unlinked }

abbrev pub link_alone : Pattern → Listing → Row
link_alone p l = record { pattern = p; listing = l; readers = nobody; link = needed }

-- `iommus` and `assigned-clock-parents` make no link of their own: the driver core puts off a probe for them (drivers/iommu/of_iommu.c:
-- `of_iommu_xlate`; drivers/clk/clk-conf.c: `__set_clk_parents`); of a `remote-endpoint` the device above makes one. The cells of nvmem providers, and names that end in `nr-gpios`, Linux's driver core and the bindings read differently: a row for each
abbrev pub phandle_properties : List Row
phandle_properties =
    everywhere needed (named (codes "clocks")) (counted (codes "#clock-cells"))
    ∷ held (named (codes "assigned-clocks")) (counted (codes "#clock-cells"))
    ∷ linked needed (named (codes "assigned-clock-parents")) (sparse (codes "#clock-cells"))
    ∷ everywhere needed (named (codes "resets")) (counted (codes "#reset-cells"))
    ∷ everywhere needed (named (codes "phys")) (counted (codes "#phy-cells"))
    ∷ everywhere optional (named (codes "dmas")) (counted (codes "#dma-cells"))
    ∷ everywhere needed (named (codes "pwms")) (counted (codes "#pwm-cells"))
    ∷ everywhere needed (named (codes "power-domains")) (counted (codes "#power-domain-cells"))
    ∷ everywhere needed (named (codes "iommus")) (counted (codes "#iommu-cells"))
    ∷ linked optional (named (codes "iommu-map")) mapped
    ∷ held (named (codes "msi-map")) mapped
    ∷ held (named (codes "msi-parent")) (counted (codes "#msi-cells"))
    ∷ linked needed (named (codes "interconnects")) (counted (codes "#interconnect-cells"))
    ∷ linked needed (named (codes "mboxes")) (counted (codes "#mbox-cells"))
    ∷ linked needed (named (codes "io-channels")) (counted (codes "#io-channel-cells"))
    ∷ linked needed (named (codes "hwlocks")) (counted (codes "#hwlock-cells"))
    ∷ held (named (codes "thermal-sensors")) (counted (codes "#thermal-sensor-cells"))
    ∷ held (named (codes "cooling-device")) (counted (codes "#cooling-cells"))
    ∷ held (named (codes "sound-dai")) (counted (codes "#sound-dai-cells"))
    ∷ held (named (codes "mux-controls")) (counted (codes "#mux-control-cells"))
    ∷ held (named (codes "nvmem-cells")) (counted (codes "#nvmem-cell-cells"))
    ∷ link_alone (named (codes "nvmem-cells")) bare
    ∷ everywhere needed (named (codes "interrupts-extended")) controllers
    ∷ everywhere needed (named (codes "interrupt-parent")) single
    ∷ link_alone (named (codes "interrupts")) lines
    ∷ linked needed (named (codes "gpios")) (counted (codes "#gpio-cells"))
    ∷ linked needed (named (codes "gpio")) (counted (codes "#gpio-cells"))
    ∷ everywhere needed (ending (codes "-gpio")) (counted (codes "#gpio-cells"))
    ∷ everywhere unlinked (ending_but (codes "-gpios") (codes "nr-gpios")) (counted (codes "#gpio-cells"))
    ∷ link_alone (ending_but (codes "-gpios") (codes ",nr-gpios")) (counted (codes "#gpio-cells"))
    ∷ everywhere needed (ending (codes "-supply")) single
    ∷ everywhere needed (named (codes "pinctrl-0")) bare
    ∷ everywhere needed (named (codes "pinctrl-1")) bare
    ∷ everywhere needed (named (codes "pinctrl-2")) bare
    ∷ everywhere needed (named (codes "pinctrl-3")) bare
    ∷ everywhere needed (named (codes "pinctrl-4")) bare
    ∷ everywhere needed (named (codes "pinctrl-5")) bare
    ∷ everywhere needed (named (codes "pinctrl-6")) bare
    ∷ everywhere needed (named (codes "pinctrl-7")) bare
    ∷ everywhere needed (named (codes "pinctrl-8")) bare
    ∷ everywhere unlinked (named (codes "pinctrl-9")) bare
    ∷ held (named (codes "remote-endpoint")) endpoint
    ∷ linked needed (named (codes "extcon")) bare
    ∷ linked needed (named (codes "wakeup-parent")) bare
    ∷ linked needed (named (codes "leds")) bare
    ∷ linked needed (named (codes "backlight")) bare
    ∷ linked needed (named (codes "panel")) bare
    ∷ held (named (codes "memory-region")) bare
    ∷ held (named (codes "phy-handle")) bare
    ∷ held (named (codes "cpu")) bare
    ∷ held (named (codes "cpu-idle-states")) bare
    ∷ held (named (codes "next-level-cache")) bare
    ∷ held (named (codes "operating-points-v2")) bare
    ∷ held (named (codes "interrupt-affinity")) bare
    ∷ held (named (codes "trip")) bare
    ∷ []

abbrev pub has_ending : List ℕ → List ℕ → Bool
has_ending name end = ends_with nat_eq name end

-- whether a row with this pattern is for the property of this name
abbrev pub is_for : List ℕ → Pattern → Bool
is_for name (named word) = bytes_eq name word
is_for name (ending end) = has_ending name end
is_for name (ending_but end other) = has_ending name end && not (has_ending name other)

-- who asks: a plan, whoever looks at a value, or the links of Linux
pub data Asker : Type 0 where
  plan : Asker
  values : Asker
  links : Asker

abbrev pub is_linked : Link → Bool
is_linked unlinked = false
is_linked needed = true
is_linked optional = true

abbrev pub is_read : Asker → Readers → Link → Bool
is_read plan plans_too link = true
is_read plan values_alone link = false
is_read plan nobody link = false
is_read values plans_too link = true
is_read values values_alone link = true
is_read values nobody link = false
is_read links readers link = is_linked link

-- the first row for the property of this name that the asker reads
abbrev pub row_of : Asker → List ℕ → Option Row
row_of asker name = find (λ r. is_read asker r.readers r.link && is_for name r.pattern) phandle_properties
