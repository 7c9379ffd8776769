-- What a book stands for.
use Rattle.std.specs.Prelude.{◌≡◌, ℕ, ◌<◌, ◌≤◌, List, length, Some}
use Rattle.wire_ids.specs.declared.keys.RootKeys.{RootKeys}
use Rattle.disk_model.specs.Disk.{WhereTold}
use Rattle.entries.specs.declared.entry.Entry.{Entry}
use Rattle.roam_core.specs.Legal.{IsStep}
use Rattle.book.specs.Histories.{IsLegalSince}
use Rattle.book.specs.Pages.{Page}

-- what no call changes
pub record Fixed : Type 0 where
  pub keys : List RootKeys  -- the key table of the vault
  pub opened : ℕ  -- how many entries there were when the opening began
  pub opening_faults : ℕ  -- how often the keeper had failed when it ended

pub record Sight (K : Type 0) : Type 0 where
  pub page : Page K  -- what is written, and the desk that it makes
  pub fixed : Fixed

-- ---- what holds of every book, whatever journal it was opened on

pub record IsBook {K : Type 0} (b : Sight K) : Type 0 where
  pub begun : 0 < b.page.desk.now.entries
  pub keys : length b.fixed.keys ≡ length b.page.config.devices
  pub opened : b.fixed.opened ≤ b.page.desk.now.entries
  pub faults : b.fixed.opening_faults ≤ b.page.faults
  pub legal : WhereTold b.page.records (IsLegalSince b.page.config b.fixed.keys b.fixed.opened)
  pub tried : (e : Entry) → b.page.tried ≡ Some e → IsStep b.page.config b.fixed.keys b.page.desk e e.event
