-- What a window shows of a disk.
use Rattle.std.specs.Prelude.{◌≡◌, ◌≤◌, ◌+◌, ◌-◌, ℕ, List, take, drop}
use Rattle.disk_journal.specs.declared.window.Window.{Window}

-- its bytes are those of the content from its place on
abbrev pub Shows : Window → List ℕ → Type 0
Shows w content = take w.used w.room.items ≡ take w.used (drop w.at content)

-- five bytes from this place on are among them
pub record HasHead (w : Window) (at : ℕ) : Type 0 where
  pub from : w.at ≤ at
  pub to : at + 5 ≤ w.at + w.used

-- its bytes from a place on
abbrev pub shown_from : Window → ℕ → List ℕ
shown_from w at = drop (at - w.at) (take w.used w.room.items)
