-- What the two files hold, from what a crash may leave.
use Rattle.std.proofs.Common.{[], ◌≡◌, ℕ, List, Option, IsTrue, sym, ap, subst, ◌∙◌}
use Rattle.std.specs.Prelude.{Result, Ok, Err, IfOk}
use Rattle.std.proofs.Math.Logic.{∥∥₁_elim, ∥∥₁_map}
use Rattle.std.specs.Coded.{coded_ℕ, coded_list, coded_option}
use base.Stored.{Coded-set}
use Rattle.sqlite_disk.specs.declared.Disk.{Ghosts}
use Rattle.sqlite_wal.proofs.LogLemmas.{SeenMayStay}
use Rattle.sqlite_store.specs.declared.store.FileStore.{FileStore}
use Rattle.sqlite_disk.specs.declared.Files.{Files}
use Rattle.sqlite_wal.specs.Reads.{AreClean}
use Rattle.sqlite_wal.specs.Files.{outcomes}
use Rattle.sqlite_pool.proofs.StateLemmas.{clean_is, may_leave_is}
use Rattle.sqlite_trees.proofs.Doubt.{no_doubt}
use Rattle.sqlite_trees.specs.View.{IsClean as IsHonest}
use Rattle.sqlite_store.specs.FileStore.{state as store_state, view, recovers, files as store_files}
use Rattle.sqlite_store.specs.Laws.{stays_at}
use Rattle.sqlite.specs.Recovery.{Image}
use Rattle.sqlite.specs.Tree.{Trees}
use Rattle.sqlite.specs.Effect.{Database}
use Rattle.sqlite.specs.State.{State, Opens}
use Rattle.sqlite.specs.Start.{FindsIn}
use Rattle.sqlite.specs.Held.{AreDatabases}
use Rattle.sqlite.specs.Files.{over_files, file_state, image_of}
use Rattle.sqlite.specs.Closing.{HoldsAlone, IsCopied}
use Rattle.sqlite.proofs.Theorems.{opens_again}
use Rattle.sqlite_image.specs.Kept.{Holds}
use Rattle.sqlite_image.specs.Keeper.{Keeper, Keeps, IsClean}
use Rattle.sqlite_image.specs.Files.{FilesHold, FileHolds, HoldLeft}

images_set : IsSet (Option (List ℕ))
images_set = Coded-set (coded_option (coded_list coded_ℕ))

-- what the files hold is what the opened database holds
pub found_in : (version : ℕ) (image other : Option (List ℕ)) (files : Image) (s : State) → FilesHold version image files
    → Opens s → FindsIn files s → (Holds version image s.now.trees → other ≡ image) → other ≡ image
found_in version image other files s held opened found is = ∥∥₁_elim held (images_set _ _) (λ (rows, has, holds).
    is (subst (Holds version image) (sym (ap (λ (d : Database). d.trees) opened.clean ∙ found.holds rows has)) holds))

-- what holds of a value that there is, out of two things that do, of which the second has a premise
pub if_ok : {A E : Type 0} (H : Type 0) (P Q R : A → Type 0) (r : Result A E) → IfOk r P → (H → IfOk r Q)
    → ((a : A) → P a → (H → Q a) → R a) → IfOk r R
if_ok H P Q R (Ok a) p q f = f a p q
if_ok H P Q R (Err e) p q f = tt

-- what holds of a value that there is, out of what does
pub ok_then : {A E : Type 0} (P R : A → Type 0) (r : Result A E) → IfOk r P → ((a : A) → P a → R a) → IfOk r R
ok_then P R (Ok a) p f = f a p
ok_then P R (Err e) p f = tt

module _ {D : Type 0} {g : Ghosts D} where
  -- the last commit is one of those that a crash may leave
  pub holds_commit : (k : Keeper (FileStore D g)) → SeenMayStay g → IsTrue (file_state k.conn).is_open
      → (image : Option (List ℕ)) → Keeps over_files k image → Holds k.version image (file_state k.conn).committed.trees
  holds_commit k stays is_open image keeps = keeps.every _ (stays_at k.conn.store stays is_open)

  pub left_in : (it : FileStore D g) → IsTrue (view it).is_numbered → AreDatabases (recovers it)
      → (version : ℕ) (image : Option (List ℕ)) → ((rows : Trees) → recovers it rows → Holds version image rows)
      → (left : Image) → (store_state it).may_leave left → FilesHold version image left
  left_in it numbered sound version image keeps left may =
      ∥∥₁_map (opens_again it numbered sound left may) (λ (rows, may, has). (rows, has, keeps rows may))

alone_in : (version : ℕ) (image : Option (List ℕ)) (files : Image) (rows : Trees) → HoldsAlone files rows
    → Holds version image rows → FileHolds version image files
alone_in version image files rows copied holds = ∥∥₁_map copied.alone (λ has. (rows, has, holds))

module _ {D : Type 0} {g : Ghosts D} (was k : Keeper (FileStore D g)) (is : was ≡ k) (image : Option (List ℕ))
    (keeps : Keeps over_files k image) where
  kept_before : Keeps over_files was image
  kept_before = subst (λ (x : Keeper (FileStore D g)). Keeps over_files x image) (sym is) keeps

  pub closed_now : SeenMayStay g → (files : Files D) → IsCopied was.conn files
      → FileHolds k.version image (image_of g files)
  closed_now stays files copied =
      subst (λ (x : Keeper (FileStore D g)). FileHolds x.version image (image_of g files)) is
      (alone_in was.version image _ _ copied.seen (holds_commit was stays copied.was_open image kept_before))

  pub closed_both : SeenMayStay g → (files : Files D) → IsCopied was.conn files
      → FilesHold k.version image (image_of g files)
  closed_both stays files copied =
      subst (λ (x : Keeper (FileStore D g)). FilesHold x.version image (image_of g files)) is
      (∥∥₁_map copied.seen.both (λ has. (_, has, holds_commit was stays copied.was_open image kept_before)))

  pub closed_left : SeenMayStay g → (files : Files D) → IsCopied was.conn files → (left : Image)
      → outcomes g files.log files.db left → FileHolds k.version image left
  closed_left stays files copied left may =
      subst (λ (x : Keeper (FileStore D g)). FileHolds x.version image left) is
      (alone_in was.version image left _ (copied.left left may)
      (holds_commit was stays copied.was_open image kept_before))

  -- what a crash leaves of files that were given back as they were
  pub stopped : (back : FileStore D g) (files : Files D) → (files.log, files.db) ≡ store_files back
      → (IsHonest (view back) → IsTrue (view back).is_numbered) → (IsHonest (view back) → AreDatabases (recovers back))
      → ((rows : Trees) → recovers back rows → recovers was.conn.store rows) → AreClean g files.log files.db
      → (left : Image) → outcomes g files.log files.db left → FilesHold k.version image left
  stopped back files same numbered sound before clean left may =
      let sure = subst (λ (p : D × D). AreClean g p.0 p.1) same clean in
      let honest : IsHonest (view back) = no_doubt _ (clean_is back.pool ∙ sure) in
      let left_of = may_leave_is back.pool left sure (subst (λ (p : D × D). outcomes g p.0 p.1 left) same may) in
      subst (λ (x : Keeper (FileStore D g)). FilesHold x.version image left) is
      (left_in back (numbered honest) (sound honest) was.version image
      (λ rows found. kept_before.every rows (before rows found)) left left_of)

module _ {D : Type 0} {g : Ghosts D} (was k : Keeper (FileStore D g)) (is : was ≡ k) where
  pub closed_rows : SeenMayStay g → (files : Files D) → IsCopied was.conn files → (left : Image)
      → outcomes g files.log files.db left → HoldLeft over_files k (record left { log = [] })
  closed_rows stays files copied left may =
      subst (λ (x : Keeper (FileStore D g)). HoldLeft over_files x (record left { log = [] })) is
      (∥∥₁_map (copied.left left may).alone (λ has. (_, stays_at was.conn.store stays copied.was_open, has)))

  pub stopped_rows : (back : FileStore D g) (files : Files D) → (files.log, files.db) ≡ store_files back
      → (IsHonest (view back) → IsTrue (view back).is_numbered) → (IsHonest (view back) → AreDatabases (recovers back))
      → ((rows : Trees) → recovers back rows → recovers was.conn.store rows) → AreClean g files.log files.db
      → (left : Image) → outcomes g files.log files.db left → HoldLeft over_files k left
  stopped_rows back files same numbered sound before clean left may =
      let sure = subst (λ (p : D × D). AreClean g p.0 p.1) same clean in
      let honest : IsHonest (view back) = no_doubt _ (clean_is back.pool ∙ sure) in
      let left_of = may_leave_is back.pool left sure (subst (λ (p : D × D). outcomes g p.0 p.1 left) same may) in
      subst (λ (x : Keeper (FileStore D g)). HoldLeft over_files x left) is
      (∥∥₁_map (opens_again back (numbered honest) (sound honest) left left_of)
      (λ (rows, found, has). (rows, before rows found, has)))

module _ {D : Type 0} {g : Ghosts D} (was k : Keeper (FileStore D g)) (is : was ≡ k) where
  pub closed_clean : (files : Files D) → IsCopied was.conn files → IsClean over_files k
  closed_clean files copied = subst (λ (x : Keeper (FileStore D g)). IsClean over_files x) is copied.was_clean
