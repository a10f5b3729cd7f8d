-- What the code says that a supplier property's value holds (`Forms`).
use Rattle.bus_drivers.specs.Forms.{Form as F, counted, bare, single}
use Rattle.bus_drivers.specs.declared.form.Form.{Form}
use Rattle.bus_drivers.specs.declared.form.Form.TheVariants.{Counted, Bare, Single}

abbrev pub form_data : Form → F
form_data (Counted c) = counted c.now
form_data Bare = bare
form_data Single = single
