-- What follows from one database for the next, and for a crash.
use Rattle.std.proofs.Common.{◌≡◌, inl, inr, ℕ, List, [], ◌∷◌, Option, None, Some, IsTrue, refl, sym, ap, subst}
use Rattle.std.proofs.Common.{subst₂, ◌∙◌}
use Rattle.std.specs.List.{AllZip}
use Rattle.sqlite.specs.Order.{Row, column}
use Rattle.sqlite.specs.declared.types.Value.TheVariants.{Blob}
use Rattle.sqlite.specs.Tree.{Trees}
use Rattle.sqlite.specs.Store.{Ghosts}
use Rattle.sqlite.specs.Held.{state}
use Rattle.sqlite.specs.Effect.{Database, IsDatabase}
use Rattle.sqlite.specs.State.{State, Opens, IsLive}
use Rattle.sqlite.specs.Table.{Table}
use Rattle.sqlite.specs.Schema.{Schema}
use Rattle.std.specs.Prelude.{Vec, Result, Ok, Err, IfOk, OnOk}
use Rattle.std.specs.declared.alloc.Global.{Global}
use Rattle.sqlite_image.specs.Keeper.{Keeper, Keeps}
use Rattle.sqlite_image.specs.Kept.{kept_table, kept_schema, no_schema, IsFresh, IsOurs, HasNone, HasTable}
use Rattle.sqlite_image.specs.Kept.{Holds, Stands, bytes_of}

unlisted : (P : Row → Table → Type 0) (rows : List Row) (table : Table) → AllZip P rows []
    → ¬ AllZip P rows (table ∷ [])
unlisted P [] table none one = one
unlisted P (row ∷ rows) table none one = none

abbrev at : Schema → Trees → Database
at schema rows = record { schema = schema; trees = rows }

-- rows that list our table do not list none
one_listing : (rows : Trees) → IsDatabase (at no_schema rows) → ¬ IsDatabase (at kept_schema rows)
one_listing rows none one = unlisted _ _ kept_table none.lists.listed.tables one.lists.listed.tables

fresh_not_ours : (a b : Database) → a.trees ≡ b.trees → IsFresh a → ¬ IsOurs b
fresh_not_ours a b same fresh ours =
    one_listing b.trees (subst₂ (λ s t. IsDatabase (at s t)) fresh.schema same fresh.sound)
    (subst (λ s. IsDatabase (at s b.trees)) ours.schema ours.sound)

ours_of : (version : ℕ) (image : Option (List ℕ)) (db : Database) → HasTable version image db → IsOurs db
ours_of version None db has = has.ours
ours_of version (Some image) db has = has.ours

same_table : (version : ℕ) (p q : Option (List ℕ)) (a b : Database) → a.trees ≡ b.trees → HasTable version p a
    → HasTable version q b → p ≡ q
same_table version None None a b same x y = refl
same_table version None (Some image) a b same x y =
    absurd (let e : [] ≡ y.row ∷ [] = sym x.none ∙ ap (λ (t : Trees). t 0) same ∙ y.only in cc)
same_table version (Some image) None a b same x y =
    absurd (let e : [] ≡ x.row ∷ [] = sym y.none ∙ sym (ap (λ (t : Trees). t 0) same) ∙ x.only in cc)
same_table version (Some image) (Some other) a b same x y =
    let rows : x.row ∷ [] ≡ y.row ∷ [] = sym x.only ∙ ap (λ (t : Trees). t 0) same ∙ y.only in
    let row : x.row ≡ y.row = cc in
    let blob : Blob image ≡ Blob other = sym x.image_is ∙ ap (λ r. column r 3) row ∙ y.image_is in
    cc

-- rows hold at most one image
pub same_image : (version : ℕ) (p q : Option (List ℕ)) (db : Database) → Holds version p db.trees
    → HasTable version q db → p ≡ q
same_image version p q db (all, same, inl fresh) has =
    absurd (fresh_not_ours all db (sym same) fresh.0 (ours_of version q db has))
same_image version p q db (all, same, inr mine) has = same_table version p q all db (sym same) mine has

-- what is held where nothing was made is no image
pub none_yet : (version : ℕ) (p : Option (List ℕ)) (db : Database) → Holds version p db.trees → IsFresh db → p ≡ None
none_yet version p db (all, same, inl fresh) none = fresh.1
none_yet version p db (all, same, inr mine) none = absurd (fresh_not_ours db all same none (ours_of version p all mine))

pub holds_table : (version : ℕ) (image : Option (List ℕ)) (db : Database) → HasTable version image db
    → Holds version image db.trees
holds_table version image db has = (db, refl, inr has)

pub opened : (P : Database → Type 0) (s : State) → Opens s → P s.now → Stands P s
opened P s o has = record { is_open = o.is_open; autocommit = o.autocommit; has = has; settled = sym o.clean }

pub fresh_of : (s : State) → Opens s → IsLive s → s.now.schema ≡ no_schema → Stands IsFresh s
fresh_of s o live schema = opened IsFresh s o (record { schema = schema; sound = (live o.is_open).0 })

pub ours_now : (s : State) → Opens s → IsLive s → s.now.schema ≡ kept_schema → Stands IsOurs s
ours_now s o live schema = opened IsOurs s o (record { schema = schema; sound = (live o.is_open).0 })

pub none_is_ours : (s : State) → Stands HasNone s → Stands IsOurs s
none_is_ours s k = record { is_open = k.is_open; autocommit = k.autocommit; has = k.has.ours; settled = k.settled }

-- while nothing is under way, a crash leaves what the table has and nothing else
pub keeps_table : {S : Type 0} (g : Ghosts S) (k : Keeper S)
    → ((db : Trees) → IsTrue (g.view k.conn.store).is_open → g.recovers k.conn.store db
    → db ≡ (g.view k.conn.store).committed)
    → (IsTrue (g.view k.conn.store).is_open → g.recovers k.conn.store (g.view k.conn.store).committed)
    → (image : Option (List ℕ)) → Stands (HasTable k.version image) (state g k.conn) → Keeps g k image
keeps_table g k settled stays image stands = record {
  every = λ rows may. (
    (state g k.conn).now,
    settled rows stands.is_open may
        ∙ ap (λ (d : Database). d.trees) stands.settled,
    inr stands.has,
  );
  some = (_, stays stands.is_open);
}

-- rows hold one image, or none
pub one_image : (version : ℕ) (p q : Option (List ℕ)) (rows : Trees) → Holds version p rows → Holds version q rows
    → p ≡ q
one_image version p q rows (a, is, inl none) (b, same, inl other) = none.1 ∙ sym other.1
one_image version p q rows (a, is, inl none) (b, same, inr table) =
    absurd (fresh_not_ours a b (sym is ∙ same) none.0 (ours_of version q b table))
one_image version p q rows (a, is, inr table) (b, same, inl none) =
    absurd (fresh_not_ours b a (sym same ∙ is) none.0 (ours_of version p a table))
one_image version p q rows (a, is, inr first) (b, same, inr second) =
    same_table version p q a b (sym is ∙ same) first second

pub found_is : {F : Type 0} (version : ℕ) (image : Option (List ℕ)) (old new : State)
    (r : Result (Option (Vec ℕ Global)) F) → IfOk r (λ o. Stands (HasTable version (bytes_of o)) new)
    → OnOk r (new.now ≡ old.now)
    → Holds version image old.now.trees → IfOk r (λ o. bytes_of o ≡ image)
found_is version image old new (Err e) has same held = tt
found_is version image old new (Ok o) has same held =
    sym (same_image version image (bytes_of o) new.now
    (subst (λ (d : Database). Holds version image d.trees) (sym same) held) has.has)
