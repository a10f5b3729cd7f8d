-- What the code says that a value holds (`Forms`).
use Rattle.dtman_blobs.specs.Difference.Forms.{Form as F, counted, bare, mapped}
use Rattle.dtman_blobs.specs.declared.difference.form.Form.{Form}
use Rattle.dtman_blobs.specs.declared.difference.form.Form.TheVariants.{Counted, Bare, Mapped}

abbrev pub form_data : Form → F
form_data (Counted c) = counted c.now
form_data Bare = bare
form_data Mapped = mapped
