-- What the statements over the table of one row do.
use Rattle.std.proofs.Common.{length, suc, ◌≤◌, arith, Option, IfOk, MatchOption, ◌≡◌, ◌⊎◌, inl, inr, ℕ, pos}
use Rattle.std.proofs.Common.{negsuc, List, [], ◌∷◌, map, codes, Bool, true, false, cond, Some, None, Ok}
use Rattle.std.proofs.Common.{Err, Result, IsTrue, refl, sym, ap, subst, subst₂, ◌∙◌}
use Rattle.std.specs.List.Sorted.{IsPermutation}
use Rattle.std.proofs.lemmas.List.Sorted.{length_permutation}
use Rattle.std.specs.List.{flat_map}
use Rattle.sqlite.specs.declared.types.Value.{Value}
use Rattle.sqlite.specs.declared.types.Value.TheVariants.{Null, Int, Blob}
use Rattle.std.specs.Prelude.{Vec, IfErr}
use Rattle.std.specs.declared.alloc.Global.{Global}
use Rattle.sqlite.specs.Order.{Row, column}
use Rattle.sqlite.specs.Term.{Term, lit, col}
use Rattle.sqlite.specs.Ops.{unary}
use Rattle.sqlite.specs.Query.{Query, inner, end, IsAnswer, output, page, Output}
use Rattle.sqlite.specs.Program.{overlay}
use Rattle.sqlite.specs.Schema.{Schema}
use Rattle.sqlite.specs.Kind.TheVariants.{Integer}
use Rattle.sqlite.specs.Command.{Command}
use Rattle.sqlite.specs.Command.TheVariants.{Update, Select, Insert, CreateTable, Commit, Release}
use Rattle.sqlite.specs.Edit.{edit_of, edited}
use Rattle.sqlite.specs.Cast.{cast}
use Rattle.sqlite.specs.Rowids.TheVariants.{Given, Chosen}
use Rattle.sqlite.specs.Does.{Tally, Does, lacks_sequence}
use Rattle.sqlite.specs.Source.TheVariants.{Values}
use Rattle.sqlite.specs.Compile.{table_defined_by}
use Rattle.sqlite.specs.Change.{created, next_tree}
use Rattle.sqlite.specs.Rows.{Written}
use Rattle.sqlite.specs.Order.{value_cmp}
use Rattle.sqlite_value.proofs.OrderLemmas.{value_cmp-Int}
use Rattle.std.specs.declared.cmp.Ordering.TheVariants.{Equal}
use Rattle.sqlite_rules.specs.Calls.{ids_of}
use Rattle.sqlite.specs.Tree.{Trees}
use Rattle.sqlite_tied.specs.Compute.{everything}
use Rattle.sqlite.specs.declared.error.Error.{Error}
use Rattle.sqlite.specs.Listing.{understood, reads_listing}
use Rattle.sqlite.specs.Effect.{Database}
use Rattle.sqlite.specs.Clock.{timed}
use Rattle.sqlite.specs.declared.run.Mode.{Mode}
use Rattle.sqlite.specs.State.{State, HasCleanDisk, mode_of, Writes, Executes, ExecutesIn, IsNotRun, IsUnchanged}
use Rattle.sqlite.specs.State.{IsRolledBack, RunsCommand, FailsToShow, FailsToQuery, Shown, CommitsShowing}
use Rattle.sqlite.specs.State.{shows_rows, text_of, CommitsBy, Survives, MayCommit}
use Rattle.sqlite.proofs.StateLemmas.{survives_weaker}
use Rattle.std.proofs.lemmas.Bool.{cases_Bool}
use Rattle.std.proofs.Common.{append-nil}
use Rattle.sqlite_schema.specs.declared.command.Returning.{Returning}
use Rattle.sqlite.proofs.Callers.{IsPlain, command_of, statement_of, runs_as, reads_as, never_commits, one_step}
use Rattle.sqlite.proofs.Callers.{one_permutation}
use Rattle.sqlite.specs.Effect.{IsDatabase}
use Rattle.sqlite_image.specs.declared.fault.KeepFault.{KeepFault}
use Rattle.sqlite_image.specs.declared.fault.KeepFault.TheVariants as fault
use Rattle.sqlite_image.specs.Fault.{HasVersion, IsRefused, AreRefused}
use Rattle.sqlite_image.specs.Kept.{kept_table, kept_schema, no_schema, HasNone, IsFresh, IsOurs, stored_row, shown_row}
use Rattle.sqlite_image.specs.Kept.{Holds, HasImage, HasTable, Stands, bytes_of}

either : (b : Bool) (x : Value) → cond b x x ≡ x
either true x = refl
either false x = refl

cast_null : cast Integer Null ≡ Null
unfolding unary
cast_null = either _ Null

cast_int : (n : ℕ) → cast Integer (Int (pos n)) ≡ Int (pos n)
unfolding unary
cast_int n = either _ (Int (pos n))

same_key : value_cmp (Int (pos 1)) (Int (pos 1)) ≡ Equal
same_key = value_cmp-Int (pos 1) (pos 1)

-- a part that gave a value did not stop on the way
went : {B E R : Type 0} {b : B} {Stops : E → Type 0} → ((stop : E) × Stops stop × (Ok b ≡ Err stop)) ⊎ R → R
went (inl stopped) = absurd (let e = stopped.2 in cc)
went (inr on) = on

same_value : {B E : Type 0} {a b : B} → ◌≡◌ {A = Result B E} (Ok a) (Ok b) → a ≡ b
same_value e = cc

module _ (P : Database → Type 0) (old new : State) (k : Stands P old) where
  pub unchanged_keeps : IsUnchanged old new → Stands P new
  unchanged_keeps u =
      let s = u.0 in record {
        is_open = s.is_open;
        autocommit = s.mode ∙ k.autocommit;
        has = subst P (sym s.now_is) k.has;
        settled = s.committed_is ∙ k.settled ∙ sym s.now_is;
      }

  pub undone_keeps : IsRolledBack old new → IsTrue new.is_open → Stands P new
  undone_keeps u opened =
      let s = u.undone opened in
      record {
        is_open = opened;
        autocommit = u.autocommit;
        has = subst P (sym (s.0 ∙ k.settled)) k.has;
        settled = s.1 ∙ sym s.0;
      }

  -- a statement that fails leaves the database, unless it shut the connection
  pub error_keeps : (sql : List ℕ) (params : Row) (e : Error) → Executes sql params old new (Err e) → IsTrue new.is_open
      → Stands P new
  unfolding ExecutesIn IsNotRun
  error_keeps sql params e (inl (inl u)) opened = unchanged_keeps u.1
  error_keeps sql params e (inl (inr f)) opened = undone_keeps f.3 opened
  error_keeps sql params e (inr h) opened =
      elim (cases_Bool (shows_rows false h.0)) [
        | inl shows ↦ unchanged_keeps (rw shows at h.2).1
        | inr runs ↦ by_run (rw runs at h.2)
      ]
    where
      by_run : RunsCommand old new sql h.0 (timed params h.0.formats h.1.now) (Err e) → Stands P new
      by_run (inl u) = unchanged_keeps u.1
      by_run (inr f) = undone_keeps f.3 opened

-- A write outside a transaction commits what it made.
wrote : (P : Database → Type 0) (old new : State) (command : Command) (text : List ℕ) (params : Row) (count : ℕ)
    → old.in_transaction ≡ false → Writes old new None command text params count → P new.now → Stands P new
wrote P old new command text params count auto w has =
    record {
      is_open = w.shown.is_open;
      autocommit = w.shown.mode ∙ auto;
      has = has;
      settled = rw auto at w.shown.committed_is;
    }

-- what a crash inside a plain write may leave is what the write makes
writes_by : (sql : List ℕ) (params : Row) (s : State) (schema : Schema) → s.now.schema ≡ schema → (command : Command)
    → command_of (understood schema sql) ≡ command → IsPlain (understood schema sql)
    → ¬ (command ≡ Commit) → ((name : List ℕ) → ¬ (command ≡ Release name)) → (db : Trees) → CommitsBy sql params s db
    → (tally : Tally) × (after : Database) × Does s.step_limit (mode_of s) params s.now
    (statement_of sql (understood schema sql)) None command (Ok (tally, after)) × IsDatabase after
    × (db ≡ after.trees)
unfolding CommitsBy
writes_by sql params s schema has command is plain no_commit no_release db (c, it, may) =
    let known = sym it.is ∙ ap (λ x. understood x sql) has in
    let bare = subst IsPlain (sym known) plain in
    let same : c.command ≡ command = ap command_of known ∙ is in
    by_case same bare (ap (statement_of sql) known) may
  where
    by_case : c.command ≡ command → IsPlain (Ok c) → text_of sql c ≡ statement_of sql (understood schema sql)
        → MayCommit s c.returning c.command (text_of sql c) (timed params c.formats it.now) db
        → (tally : Tally) × (after : Database) × Does s.step_limit (mode_of s) params s.now
        (statement_of sql (understood schema sql)) None command (Ok (tally, after)) × IsDatabase after
        × (db ≡ after.trees)
    by_case same bare text (inl (inl commit, _)) = absurd (no_commit (sym same ∙ commit))
    by_case same bare text (inl (inr release, _)) = absurd (no_release release.0 (sym same ∙ release.2))
    by_case same bare text (inr (auto, tally, after, does, sound, left, frozen)) =
        let plain = rw (bare.0, bare.1, append-nil params) at does in (
          tally,
          after,
          subst₂ (λ k t. Does s.step_limit (mode_of s) params s.now t None k (Ok (tally, after))) same text
              plain,
          sound,
          left,
        )

abbrev pub update_text : List ℕ
update_text = codes "UPDATE kept SET image = ?1"

abbrev query : Query
query = record {
  from = inner 0 end;
  filter = [];
  group = None;
  project = col 1 0 ∷ col 1 0 ∷ lit Null ∷ col 1 2 ∷ col 0 0 ∷ [];
  distinct = false;
  collations = [];
  order = [];
  limit = lit (Int (negsuc 0));
  offset = lit (Int (pos 0));
}

abbrev pub update : Command
update = Update 0 (record { lets = []; body = query })

update_is : command_of (understood kept_schema update_text) ≡ update
unfolding understood everything
update_is = refl

update_plain : IsPlain (understood kept_schema update_text)
unfolding understood everything
update_plain = (refl, refl)

-- what the UPDATE makes of a database that has an image
does_update : (limit : _) (mode : Mode) (db after : Database) (version : ℕ) (old image text : List ℕ) (tally : Tally)
    → HasImage version old db
    → Does limit mode (Blob image ∷ []) db text None update (Ok (tally, after)) → IsDatabase after
    → HasImage version image after
does_update limit mode db after version old image text tally one h sound =
    let has = one.ours.schema in
    let params = Blob image ∷ [] in
    let trees = db.trees in
    let done = went (subst (λ s. Does limit mode params (record db { schema = s }) text None update (Ok (tally, after)))
    has h) in
    let now = ap (λ (p : Tally × Database). p.1) (same_value (went (went done.2).2).2) in
    let read = went done.1 in
    let a : IsAnswer query (overlay trees []) params read.0 = read.1.answer Null in
    let staged : a.staged ≡ (params ∷ one.row ∷ []) ∷ [] = a.grouped ∙ rw one.only in
    let o : Output = ([], Int (pos 1) ∷ Int (pos 1) ∷ Null ∷ Int (pos version) ∷ Blob image ∷ []) in
    let kept : a.kept ≡ o ∷ [] = a.distinct ∙ ap (map (output query)) staged ∙ rw (one.key, one.version_is) in
    let ordered = one_permutation o a.ordered (subst (λ k. IsPermutation k a.ordered) kept a.same) in
    let rows : read.0 ≡ o.1 ∷ [] = a.shown ∙ ap (λ xs. page query params (map (λ (p : Output). p.1) xs)) ordered in
    let written = went read.2 in
    let same : done.0.trees ≡ written.0 = ap (λ (it : Written). it.trees) (same_value written.2) in
    let step = (one_step kept_schema _ trees written.0 (edit_of trees kept_table (ids_of read.0) Given 1 read.0) refl
    written.1).rows in
    let edit : edited trees (edit_of trees kept_table (ids_of read.0) Given 1 read.0) ≡ stored_row version image ∷ [] =
    ap (λ all. edited trees (edit_of trees kept_table (ids_of all) Given 1 all)) rows
    ∙ rw (one.only, one.key, cast_null, cast_int 1, cast_int version, same_key) in
    record {
      ours = record { schema = ap (λ (d : Database). d.schema) now; sound = sound };
      row = stored_row version image;
      only = ap (λ (d : Database). d.trees 0) now ∙ ap (λ (t : Trees). t 0) same ∙ step ∙ edit;
      key = refl;
      version_is = refl;
      image_is = refl;
    }

pub updated : (version : ℕ) (old image : List ℕ) (before new : State) (count : ℕ) → Stands (HasImage version old) before
    → Executes update_text (Blob image ∷ []) before new (Ok count) → Stands (HasImage version image) new
updated version old image before new count k h =
    let w = runs_as update_text (Blob image ∷ []) before new kept_schema k.has.ours.schema update update_is update_plain
    count h in
    let text = statement_of update_text (understood kept_schema update_text) in
    wrote (HasImage version image) before new update text (Blob image ∷ []) count k.autocommit w
    (does_update before.step_limit (mode_of before) before.now new.now version old image text w.tally k.has w.changed
    w.sound)

-- what a crash inside the UPDATE may leave, beside what it could leave before
pub update_survives : (version : ℕ) (old image : List ℕ) (before new : State) → Stands (HasImage version old) before
    → Survives before new (CommitsBy update_text (Blob image ∷ []) before)
    → Survives before new (Holds version (Some image))
update_survives version old image before new k h = survives_weaker before new _ _ left h
  where
    left : HasCleanDisk new → (db : Trees) → CommitsBy update_text (Blob image ∷ []) before db
        → Holds version (Some image) db
    left clean db commits =
        let made = writes_by update_text (Blob image ∷ []) before kept_schema k.has.ours.schema update update_is
        update_plain (λ e. cc) (λ name e. cc) db commits in (
          made.1,
          made.4,
          inr (does_update before.step_limit (mode_of before) before.now made.1 version old image
              (statement_of update_text (understood kept_schema update_text)) made.0 k.has made.2 made.3),
        )

abbrev pub select_text : List ℕ
select_text = codes "SELECT id, version, image FROM kept"

abbrev select_query : Query
select_query = record {
  from = inner 0 end;
  filter = [];
  group = None;
  project = col 1 0 ∷ col 1 2 ∷ col 1 3 ∷ [];
  distinct = false;
  collations = [];
  order = [];
  limit = lit (Int (negsuc 0));
  offset = lit (Int (pos 0));
}

select_is : (command_of (understood kept_schema select_text)
    ≡ Select (record { lets = []; body = select_query }) (codes "id" ∷ codes "version" ∷ codes "image" ∷ []))
    × (reads_listing kept_schema select_text ≡ false)
unfolding understood everything
select_is = (refl, refl)

select_plain : IsPlain (understood kept_schema select_text)
unfolding understood everything
select_plain = (refl, refl)

pub shown_keeps : (P : Database → Type 0) (old new : State) (rows : List Row) → Stands P old
    → old.now.schema ≡ kept_schema → Shown select_text [] old new rows → Stands P new
unfolding Shown
shown_keeps P old new rows k has h =
    let known = sym h.1.is ∙ ap (λ x. understood x select_text) has in
    let bare = subst IsPlain (sym known) select_plain in
    let it = rw bare.0 at h.2 in
    unchanged_keeps P old new k it.3

pub query_keeps : (P : Database → Type 0) (old new : State) (sql : List ℕ) (params : Row) (e : Error) → Stands P old
    → FailsToQuery sql params old new e → IsTrue new.is_open → Stands P new
unfolding FailsToQuery IsNotRun
query_keeps P old new sql params e k (inl (inl u)) opened = unchanged_keeps P old new k u.1
query_keeps P old new sql params e k (inl (inr f)) opened = undone_keeps P old new k f.3 opened
query_keeps P old new sql params e k (inr h) opened = by_show h.0.returning h.2
  where
    by_show : (r : Option Returning) → FailsToShow old new sql h.0 (timed params h.0.formats h.1.now) e r → Stands P new
    by_show None it = unchanged_keeps P old new k it.3
    by_show (Some what) (inl u) = unchanged_keeps P old new k u.1
    by_show (Some what) (inr f) = undone_keeps P old new k f.3 opened

pub select_survives : (old new : State) → Stands IsOurs old → Survives old new (CommitsShowing select_text [] old)
    → Survives old new (λ _. ⊥)
select_survives old new k h =
    survives_weaker old new _ _ (λ _ db commits. never_commits select_text [] old db
    (subst (λ x. IsPlain (understood x select_text)) (sym k.has.schema) select_plain) commits) h

abbrev pub create_text : List ℕ
create_text = codes "CREATE TABLE kept (id INTEGER PRIMARY KEY, version INTEGER NOT NULL, image BLOB NOT NULL) STRICT"

create_is : (command_of (understood no_schema create_text) ≡ CreateTable)
    × (statement_of create_text (understood no_schema create_text) ≡ create_text)
    × (table_defined_by create_text ≡ Ok kept_table)
unfolding understood everything
create_is = (refl, refl, refl)

create_plain : IsPlain (understood no_schema create_text)
unfolding understood everything
create_plain = (refl, refl)

-- what the CREATE TABLE makes of a database that has nothing
does_create : (limit : _) (mode : Mode) (db after : Database) (tally : Tally) → db.schema ≡ no_schema
    → Does limit mode [] db (statement_of create_text (understood no_schema create_text)) None CreateTable
    (Ok (tally, after)) → IsDatabase after → HasNone after
does_create limit mode db after tally has h sound =
    let all = went (subst (λ t. Does limit mode [] db t None CreateTable (Ok (tally, after))) create_is.1 h) in
    let first = went all.1 in
    let made = first.1 in
    let both : Ok made.table ≡ Ok kept_table = sym made.defined ∙ create_is.2 in
    let same : made.table ≡ kept_table = cc in
    let schema : first.0.schema ≡ kept_schema = made.is ∙ ap (λ s. created s made.table) has
    ∙ ap (created no_schema) same in
    let plain : lacks_sequence first.0.schema ≡ false = ap lacks_sequence schema in
    let now : after ≡ first.0 = ap (λ (p : Tally × Database). p.1) (same_value all.2)
    ∙ same_value (rw plain at first.2) in
    record {
      ours = record { schema = ap (λ (d : Database). d.schema) now ∙ schema; sound = sound };
      none = ap (λ (d : Database). d.trees 0) now ∙ subst (λ s. first.0.trees (next_tree s) ≡ []) has made.empty;
    }

pub created_none : (old new : State) (count : ℕ) → Stands IsFresh old → Executes create_text [] old new (Ok count)
    → Stands HasNone new
created_none old new count k h =
    let w = runs_as create_text [] old new no_schema k.has.schema CreateTable create_is.0 create_plain count h in
    wrote HasNone old new CreateTable _ [] count k.autocommit w
    (does_create old.step_limit (mode_of old) old.now new.now w.tally k.has.schema w.changed w.sound)

pub create_survives : (version : ℕ) (old new : State) → Stands IsFresh old
    → Survives old new (CommitsBy create_text [] old) → Survives old new (Holds version None)
create_survives version old new k h = survives_weaker old new _ _ left h
  where
    left : HasCleanDisk new → (db : Trees) → CommitsBy create_text [] old db → Holds version None db
    left clean db commits =
        let made = writes_by create_text [] old no_schema k.has.schema CreateTable create_is.0 create_plain (λ e. cc)
        (λ name e. cc) db commits in (
          made.1,
          made.4,
          inr (does_create old.step_limit (mode_of old) old.now made.1 made.0 k.has.schema made.2
              made.3),
        )

abbrev pub insert_text : List ℕ
insert_text = codes "INSERT INTO kept (version, image) VALUES (?1, ?2)"

abbrev terms : List Term
terms = lit Null ∷ lit Null ∷ col 0 0 ∷ col 0 1 ∷ []

insert_is : command_of (understood kept_schema insert_text) ≡ Insert 0 (Values terms 4)
unfolding understood everything
insert_is = refl

insert_plain : IsPlain (understood kept_schema insert_text)
unfolding understood everything
insert_plain = (refl, refl)

-- what the INSERT makes of the table with no row
does_insert : (limit : _) (mode : Mode) (db after : Database) (version : ℕ) (image text : List ℕ) (tally : Tally)
    → HasNone db
    → Does limit mode (Int (pos version) ∷ Blob image ∷ []) db text None (Insert 0 (Values terms 4)) (Ok (tally, after))
    → IsDatabase after → HasImage version image after
does_insert limit mode db after version image text tally one h sound =
    let params = Int (pos version) ∷ Blob image ∷ [] in
    let trees = db.trees in
    let command = Insert 0 (Values terms 4) in
    let done = went (subst (λ s. Does limit mode params (record db { schema = s }) text None command
    (Ok (tally, after))) one.ours.schema h) in
    let now = ap (λ (p : Tally × Database). p.1) (same_value (went (went done.2).2).2) in
    let given = went done.1 in
    let written = went (went given.2).2 in
    let counted = went written.2 in
    let same : done.0.trees ≡ written.0 = ap (λ (it : Written). it.trees) (same_value counted.2)
    ∙ same_value counted.1 in
    let rows = (one_step kept_schema _ trees written.0 (edit_of trees kept_table [] Chosen 0 given.0) refl
    written.1).rows in
    let edit : edited trees (edit_of trees kept_table [] Chosen 0 given.0) ≡ stored_row version image ∷ [] =
    ap (λ all. edited trees (edit_of trees kept_table [] Chosen 0 all)) given.1.1
    ∙ rw (one.none, cast_null, cast_int version) in
    record {
      ours = record { schema = ap (λ (d : Database). d.schema) now; sound = sound };
      row = stored_row version image;
      only = ap (λ (d : Database). d.trees 0) now ∙ ap (λ (t : Trees). t 0) same ∙ rows ∙ edit;
      key = refl;
      version_is = refl;
      image_is = refl;
    }

pub inserted : (version : ℕ) (image : List ℕ) (old new : State) (count : ℕ) → Stands HasNone old
    → Executes insert_text (Int (pos version) ∷ Blob image ∷ []) old new (Ok count)
    → Stands (HasImage version image) new
inserted version image old new count k h =
    let params = Int (pos version) ∷ Blob image ∷ [] in
    let command = Insert 0 (Values terms 4) in
    let w = runs_as insert_text params old new kept_schema k.has.ours.schema command insert_is insert_plain count h in
    let text = statement_of insert_text (understood kept_schema insert_text) in
    wrote (HasImage version image) old new command text params count k.autocommit w
    (does_insert old.step_limit (mode_of old) old.now new.now version image text w.tally k.has w.changed w.sound)

pub insert_survives : (version : ℕ) (image : List ℕ) (old new : State) → Stands HasNone old
    → Survives old new (CommitsBy insert_text (Int (pos version) ∷ Blob image ∷ []) old)
    → Survives old new (Holds version (Some image))
insert_survives version image old new k h = survives_weaker old new _ _ left h
  where
    left : HasCleanDisk new → (db : Trees) → CommitsBy insert_text (Int (pos version) ∷ Blob image ∷ []) old db
        → Holds version (Some image) db
    left clean db commits =
        let made = writes_by insert_text (Int (pos version) ∷ Blob image ∷ []) old kept_schema k.has.ours.schema
        (Insert 0 (Values terms 4)) insert_is insert_plain (λ e. cc) (λ name e. cc) db commits in (
          made.1,
          made.4,
          inr (does_insert old.step_limit (mode_of old) old.now made.1 version image
              (statement_of insert_text (understood kept_schema insert_text)) made.0 k.has made.2 made.3),
        )

none_left : {X : Type 0} (xs : List X) → length xs ≡ 0 → xs ≡ []
none_left [] e = refl
none_left (x ∷ xs) e = absurd (omega (arith, e))

count_map : {X Y : Type 0} (f : X → Y) (xs : List X) → length (map f xs) ≡ length xs
count_map f [] = refl
count_map f (x ∷ xs) = ap suc (count_map f xs)

selected_any : (db : Database) (rows : List Row) → IsAnswer select_query (overlay db.trees []) [] rows → length rows ≤ 1
    → (t : List Row) → db.trees 0 ≡ t → rows ≡ map shown_row t
selected_any db rows a few [] is =
    let staged : a.staged ≡ [] = a.grouped ∙ rw is in
    let kept : a.kept ≡ [] = a.distinct ∙ ap (map (output select_query)) staged in
    let ordered : a.ordered ≡ [] = none_left a.ordered
    (omega (arith, length_permutation a.kept a.ordered a.same, ap length kept)) in
    a.shown ∙ ap (λ xs. page select_query [] (map (λ (p : Output). p.1) xs)) ordered
selected_any db rows a few (x ∷ []) is =
    let o : Output = ([], shown_row x) in
    let staged : a.staged ≡ ([] ∷ x ∷ []) ∷ [] = a.grouped ∙ rw is in
    let kept : a.kept ≡ o ∷ [] = a.distinct ∙ ap (map (output select_query)) staged in
    let ordered = one_permutation o a.ordered (subst (λ k. IsPermutation k a.ordered) kept a.same) in
    a.shown ∙ ap (λ xs. page select_query [] (map (λ (p : Output). p.1) xs)) ordered
selected_any db rows a few (x ∷ y ∷ more) is =
    let staged : a.staged ≡ ([] ∷ x ∷ []) ∷ ([] ∷ y ∷ []) ∷ flat_map (λ r. ([] ∷ r ∷ []) ∷ []) more =
    a.grouped ∙ rw is in
    let kept = ap length (a.distinct ∙ ap (map (output select_query)) staged) in
    let all : length rows ≡ length a.ordered = ap length a.shown ∙ count_map (λ (p : Output). p.1) a.ordered in
    absurd (omega (arith, few, all, length_permutation a.kept a.ordered a.same, kept))

pub found_rows : (old new : State) (rows : List Row) → Stands IsOurs old → Shown select_text [] old new rows
    → Stands IsOurs new × (new.now ≡ old.now) × (length rows ≤ 1 → rows ≡ map shown_row (old.now.trees 0))
unfolding Shown
found_rows old new rows k h =
    let known = sym h.1.is ∙ ap (λ x. understood x select_text) k.has.schema in
    let bare = subst IsPlain (sym known) select_plain in
    let same = (rw bare.0 at h.2).3 in
    let read = reads_as select_text [] old new kept_schema k.has.schema _ select_is.0 select_plain select_is.1 rows h in
    let few = λ (short : length rows ≤ 1). selected_any old.now rows (read.answer Null) short _ refl in
    (unchanged_keeps IsOurs old new k same, same.0.now_is, few)

one_row : (version : ℕ) (image : List ℕ) (db : Database) (row : Row) (t : List Row) → IsOurs db → db.trees 0 ≡ t
    → row ∷ [] ≡ map shown_row t → column row 0 ≡ Int (pos 1) → column row 1 ≡ Int (pos version)
    → column row 2 ≡ Blob image
    → HasImage version image db
one_row version image db row [] ours is same key numbered shown = absurd cc
one_row version image db row (x ∷ y ∷ more) ours is same key numbered shown = absurd (omega (arith, ap length same))
one_row version image db row (x ∷ []) ours is same key numbered shown =
    let one : row ≡ shown_row x = cc in
    record {
      ours = ours;
      row = x;
      only = is;
      key = ap (λ r. column r 0) (sym one) ∙ key;
      version_is = ap (λ r. column r 1) (sym one) ∙ numbered;
      image_is = ap (λ r. column r 2) (sym one) ∙ shown;
    }

no_row : (t : List Row) → [] ≡ map shown_row t → t ≡ []
no_row [] e = refl
no_row (x ∷ t) e = absurd (omega (arith, ap length e))

pub read_finds : {F : Type 0} (version : ℕ) (s : State) (rows : List Row) (r : Result (Option (Vec ℕ Global)) F)
    → Stands IsOurs s → (length rows ≤ 1 → rows ≡ map shown_row (s.now.trees 0))
    → IfOk r (λ o. MatchOption o (rows ≡ []) (λ v. (row : Row) × (rows ≡ row ∷ []) × (column row 0 ≡ Int (pos 1))
    × (column row 1 ≡ Int (pos version)) × (column row 2 ≡ Blob v.items)))
    → IfOk r (λ o. Stands (HasTable version (bytes_of o)) s)
read_finds version s rows (Err e) k is h = tt
read_finds version s rows (Ok None) k is h =
    let none = no_row (s.now.trees 0) (sym h ∙ is (omega (arith, ap length h))) in
    record {
      is_open = k.is_open;
      autocommit = k.autocommit;
      has = record { ours = k.has; none = none };
      settled = k.settled;
    }
read_finds version s rows (Ok (Some v)) k is (row, same, key, numbered, shown) =
    let has = one_row version v.items s.now row (s.now.trees 0) k.has refl
    (sym same ∙ is (omega (arith, ap length same))) key numbered shown in
    record { is_open = k.is_open; autocommit = k.autocommit; has = has; settled = k.settled }

one_version : (found : ℕ) (db : Database) (row : Row) (t : List Row) → db.trees 0 ≡ t → row ∷ [] ≡ map shown_row t
    → column row 1 ≡ Int (pos found) → HasVersion found db
one_version found db row [] is same numbered = absurd cc
one_version found db row (x ∷ y ∷ more) is same numbered = absurd (omega (arith, ap length same))
one_version found db row (x ∷ []) is same numbered =
    let one : row ≡ shown_row x = cc in
    record { row = x; only = is; version_is = ap (λ r. column r 1) (sym one) ∙ numbered }

-- what is refused of the rows is refused of the table
pub rows_refused : (version : ℕ) (db : Database) (rows : List Row) (why : KeepFault)
    → (length rows ≤ 1 → rows ≡ map shown_row (db.trees 0)) → AreRefused version rows why → IsRefused version db why
rows_refused version db rows (fault.Newer found) is (row, same, numbered, less) =
    (one_version found db row (db.trees 0) refl (sym same ∙ is (omega (arith, ap length same))) numbered, less)
rows_refused version db rows (fault.Older found) is (row, same, numbered, less) =
    (one_version found db row (db.trees 0) refl (sym same ∙ is (omega (arith, ap length same))) numbered, less)
rows_refused version db rows fault.InUse is never = never
rows_refused version db rows fault.NotOurs is never = absurd never
rows_refused version db rows fault.Damaged is why = tt
rows_refused version db rows (fault.Unreachable why) is never = never
rows_refused version db rows fault.Full is why = tt
rows_refused version db rows fault.OutOfMemory is why = tt
rows_refused version db rows fault.Failed is why = tt

-- a table with no row is refused for no version, and is not another database
pub none_refused : (version : ℕ) (db other : Database) (why : KeepFault) → HasNone db → IsRefused version db why
    → IsRefused version other why
none_refused version db other (fault.Newer found) none (has, less) =
    absurd (let e : [] ≡ has.row ∷ [] = sym none.none ∙ has.only in cc)
none_refused version db other (fault.Older found) none (has, less) =
    absurd (let e : [] ≡ has.row ∷ [] = sym none.none ∙ has.only in cc)
none_refused version db other fault.InUse none never = never
none_refused version db other fault.NotOurs none why = absurd (why.1 none.ours.schema)
none_refused version db other fault.Damaged none why = tt
none_refused version db other (fault.Unreachable why) none never = never
none_refused version db other fault.Full none why = tt
none_refused version db other fault.OutOfMemory none why = tt
none_refused version db other fault.Failed none why = tt

pub all_refused : {A : Type 0} (version : ℕ) (db : Database) (rows : List Row) (r : Result A KeepFault)
    → (length rows ≤ 1 → rows ≡ map shown_row (db.trees 0)) → IfErr r (AreRefused version rows)
    → IfErr r (IsRefused version db)
all_refused version db rows (Ok value) is why = tt
all_refused version db rows (Err fault) is why = rows_refused version db rows fault is why

-- what is refused of the table that was made, or that was there, is refused of what was there
pub refused_before : {A : Type 0} (version : ℕ) (db other : Database) (r : Result A KeepFault)
    → (db ≡ other) ⊎ HasNone db → IfErr r (IsRefused version db) → IfErr r (IsRefused version other)
refused_before version db other (Ok value) how why = tt
refused_before version db other (Err fault) (inl same) why = subst (λ d. IsRefused version d fault) same why
refused_before version db other (Err fault) (inr none) why = none_refused version db other fault none why
