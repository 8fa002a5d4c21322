-- READ: what a tag shows.
use Rattle.std.specs.Prelude.{ℕ, List}
use Rattle.tag.specs.Boxes.{Box}
use Rattle.tag.specs.Window.{Window, stored_at, window_by, shown_from}

-- settings, custom field and separator are those stored now; the code is the tag's
abbrev pub window_of : Box → Window
window_of x = window_by (stored_at x.mem.blocks) x.code

-- the bytes that READ shows from block b on
abbrev pub shown_by : Box → ℕ → List ℕ
shown_by x b = shown_from x.mem.blocks x.code b
