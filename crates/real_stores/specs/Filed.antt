-- A keeper's database as a making of it leaves it.
use Rattle.std.specs.Prelude.{List}
use Rattle.sqlite_disk.specs.declared.Disk as disk
use Rattle.sqlite_store.specs.declared.store.FileStore.{FileStore}
use Rattle.sqlite.specs.State.{HasCleanDisk}
use Rattle.sqlite.specs.Held.{Held}
use Rattle.sqlite.specs.Files.{file_state, over_files, IsOpened}
use Rattle.sqlite_keeper.specs.Making.{IsMade}
use Rattle.okws_plan.specs.declared.configuration.Table.{Table}

-- A database was opened in files, and each table was made and filled in it, or kept.
abbrev pub IsFiled : {D : Type 0} {g : disk.Ghosts D} → List Table → Held (FileStore D g) → Type 0
IsFiled {D} {g} tables last = (first : Held (FileStore D g)) × (HasCleanDisk (file_state first) → IsOpened first) × (HasCleanDisk (file_state last) → IsMade over_files tables first last)
