-- A keeper whose rows stand in a file may cross threads: the file, its log and its pages may.
use denote.RattleType.{RattleType}
use denote.Param.Send.{IsSend, owning_send, sendable}
use denote.Param.SendFields.{declared_send, variants_send}
use Rattle.std.proofs.Crossing.{Vec-send}
use Rattle.sqlite_trees.specs.contracts.error.StoreError as StoreError
use Rattle.sqlite_trees.specs.contracts.store.Shape as Shape
use Rattle.sqlite_trees.specs.contracts.store.Direction as Direction
use Rattle.sqlite_store.specs.contracts.catalog.Wanted as Wanted
use Rattle.sqlite_store.specs.contracts.saved.Listed as Listed
use Rattle.sqlite_store.specs.contracts.saved.Saved as Saved
use Rattle.sqlite_store.specs.contracts.cursor.Place as Place
use Rattle.sqlite_format.specs.contracts.kind.Tree as Tree
use Rattle.sqlite_format.specs.contracts.kind.Kind as PageKind
use Rattle.sqlite_btree.specs.contracts.batch.Batch as TreeBatch
use Rattle.sqlite_store.specs.contracts.cursor.Cursor as Cursor
use Rattle.sqlite_store.specs.contracts.limits.Limits as Limits
use Rattle.sqlite_btree.specs.contracts.scratch.Scratch as Scratch
use Rattle.sqlite_pool.specs.contracts.free_set.FreeSet as FreeSet
use Rattle.sqlite_pool.specs.contracts.pool.Mark as PoolMark
use Rattle.sqlite_wal.specs.contracts.index.PageIndex as PageIndex
use Rattle.sqlite_wal.specs.contracts.batch.Batch as Batch
use Rattle.sqlite_wal.specs.contracts.log.Point as Point
use Rattle.sqlite_wal.specs.contracts.recover.Mark as WalMark
use Rattle.sqlite_wal.specs.contracts.log.Ahead as Ahead
use Rattle.sqlite_pager.specs.contracts.layers.Layer as Layer
use Rattle.sqlite_pager.specs.contracts.cache.Cache as Cache
use Rattle.sqlite_pager.specs.contracts.pager.Options as Options
use Rattle.sqlite_disk.specs.contracts.tally.Tally as Tally
use Rattle.sqlite_disk.specs.contracts.start.Unknown as Unknown
use Rattle.sqlite_disk.specs.contracts.modelled.Modelled as Modelled
use Rattle.sqlite_disk.specs.declared.Disk as disk
use Rattle.sqlite_disk.specs.declared.calls.Calls as calls
use Rattle.sqlite_disk.specs.declared.start.Start as start
use Rattle.sqlite_pager.specs.contracts.pager.Pager as Pager
use Rattle.sqlite_pool.specs.contracts.backing.Backing as Backing
use Rattle.sqlite_pool.specs.contracts.pool.Pool as Pool
use Rattle.sqlite_std_file.specs.contracts.host.Host as Host
use Rattle.sqlite_std_file.specs.contracts.record.Record as Record
use Rattle.sqlite_store.specs.contracts.store.FileStore as FileStore
use Rattle.sqlite_wal.specs.contracts.log.Log as Log
use Rattle.real_stores.proofs.SchemaCrosses.{both, Option-send, Order-send, Row-send}
use Rattle.real_stores.proofs.DatabaseCrosses.{SqliteKeeper-send}
use Rattle.real_stores.specs.contracts.stores.FileKeeper as FileKeeper

pub StoreError-send : IsSend StoreError.the_row
StoreError-send = variants_send StoreError.enum (search (both, sendable) depth 20)

pub Shape-send : IsSend Shape.the_row
Shape-send = variants_send Shape.enum (search (Order-send, both, sendable) depth 20)

pub Direction-send : IsSend Direction.the_row
Direction-send = variants_send Direction.enum (search (both, sendable) depth 20)

pub Wanted-send : IsSend Wanted.the_row
Wanted-send = declared_send Wanted.the_type (search (Shape-send, Row-send, both, sendable) depth 20)

pub Listed-send : IsSend Listed.the_row
Listed-send = declared_send Listed.the_type (search (Wanted-send, Vec-send, both, sendable) depth 20)

pub Saved-send : IsSend Saved.the_row
Saved-send = declared_send Saved.the_type (search (Wanted-send, Listed-send, Vec-send, both, sendable) depth 20)

pub Place-send : IsSend Place.the_row
Place-send = variants_send Place.enum (search (both, sendable) depth 20)

pub Tree-send : IsSend Tree.the_row
Tree-send = variants_send Tree.enum (search (both, sendable) depth 20)

pub PageKind-send : IsSend PageKind.the_row
PageKind-send = declared_send PageKind.the_type (search (Tree-send, both, sendable) depth 20)

pub TreeBatch-send : IsSend TreeBatch.the_row
TreeBatch-send = declared_send TreeBatch.the_type (search (Vec-send, PageKind-send, both, sendable) depth 20)

pub Cursor-send : IsSend Cursor.the_row
Cursor-send = declared_send Cursor.the_type (search (Shape-send, Direction-send, Place-send, TreeBatch-send, Vec-send, both, sendable) depth 20 fits 5000)

pub Limits-send : IsSend Limits.the_row
Limits-send = declared_send Limits.the_type (search (StoreError-send, both, sendable) depth 20)

pub Scratch-send : IsSend Scratch.the_row
Scratch-send = declared_send Scratch.the_type (search (Vec-send, both, sendable) depth 20)

pub FreeSet-send : IsSend FreeSet.the_row
FreeSet-send = declared_send FreeSet.the_type (search (Vec-send, both, sendable) depth 20)

pub PoolMark-send : IsSend PoolMark.the_row
PoolMark-send = declared_send PoolMark.the_type (search (both, sendable) depth 20)

pub PageIndex-send : IsSend PageIndex.the_row
PageIndex-send = search (Vec-send, both, sendable) depth 20

pub Batch-send : IsSend Batch.the_row
Batch-send = declared_send Batch.the_type (search (PageIndex-send, Vec-send, both, sendable) depth 20)

pub Point-send : IsSend Point.the_row
Point-send = declared_send Point.the_type (search (both, sendable) depth 20)

pub WalMark-send : IsSend WalMark.the_row
WalMark-send = declared_send WalMark.the_type (search (both, sendable) depth 20)

pub Ahead-send : IsSend Ahead.the_row
Ahead-send = declared_send Ahead.the_type (search (both, sendable) depth 20)

pub Layer-send : IsSend Layer.the_row
Layer-send = declared_send Layer.the_type (search (Batch-send, both, sendable) depth 20)

pub Cache-send : IsSend Cache.the_row
Cache-send = declared_send Cache.the_type (search (Vec-send, both, sendable) depth 20)

pub Options-send : IsSend Options.the_row
Options-send = declared_send Options.the_type (search (both, sendable) depth 20)

pub Tally-send : IsSend Tally.the_row
Tally-send = declared_send Tally.the_type (search (both, sendable) depth 20)

pub Unknown-send : IsSend Unknown.the_row
Unknown-send = declared_send Unknown.the_type (search sendable depth 20)

-- what was noted of the calls owns nothing
Record-send : IsSend Record.the_row
Record-send = owning_send Record.the_type (search sendable, tt) (λ d. tt) (λ k x w. tt)

Host-send : IsSend Host.the_row
Host-send = declared_send Host.the_type (search (Record-send, both, sendable) depth 20)

Modelled-send : (C S : RattleType) (c : calls.Ghosts C.Denot) (s : start.Ghosts S.Denot) → IsSend C → IsSend S → IsSend (Modelled.the_row C S c s)
Modelled-send C S c s ic is = declared_send (Modelled.the_type C S c s) (search (Tally-send, both, sendable) depth 20)

module _ (D : RattleType) (g : disk.Ghosts D.Denot) (d : IsSend D) where
  Log-send : IsSend (Log.the_row D g)
  Log-send = declared_send (Log.the_type D g) (search (PageIndex-send, WalMark-send, Vec-send, Ahead-send, both, sendable) depth 20)

  Pager-send : IsSend (Pager.the_row D g)
  Pager-send = declared_send (Pager.the_type D g) (search (Log-send, Batch-send, Vec-send, Point-send, Layer-send, Cache-send, Options-send, both, sendable) depth 20)

  Backing-send : IsSend (Backing.the_row D g)
  Backing-send = declared_send (Backing.the_type D g) (search (Pager-send, Vec-send, both, sendable) depth 20)

  Pool-send : IsSend (Pool.the_row D g)
  Pool-send = declared_send (Pool.the_type D g) (search (Backing-send, FreeSet-send, PoolMark-send, Vec-send, both, sendable) depth 20)

  FileStore-send : IsSend (FileStore.the_row D g)
  FileStore-send = declared_send (FileStore.the_type D g) (search (Pool-send, Wanted-send, Vec-send, Option-send, Saved-send, Cursor-send, Scratch-send, Limits-send, both, sendable) depth 20)

pub FileKeeper-send : IsSend FileKeeper.the_row
FileKeeper-send = declared_send FileKeeper.the_type (search (SqliteKeeper-send, FileStore-send, Modelled-send, Host-send, Unknown-send, both, sendable) depth 20)
