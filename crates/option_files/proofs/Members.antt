-- The entries of members, one after another.
use Rattle.std.proofs.Common.{◌≡◌, List, [], ◌∷◌, ◌++◌, refl, inl, inr, string_bytes}
use Rattle.std.proofs.Common.{Option, Some, None}
use Rattle.toml.specs.Data.{Data, Members, no_members, member}
use Rattle.toml.specs.View.{view, members_view}
use Rattle.toml.proofs.Views.{with_last, Entry as Held}
use Rattle.option_files.specs.Words.{Entry, Text}
use Rattle.option_files.specs.Entries.{both, entries_of, entry_of, Has, RefusesEntry, RefusesTable}
use Rattle.option_files.specs.declared.entries_fault.EntriesFault.{EntriesFault}
use Rattle.option_files.specs.declared.entries_fault.EntriesFault.TheVariants.{NotToml, NotAName, NotAValue}
use Rattle.option_files.specs.declared.entries_fault.EntriesFault.TheVariants.{OutOfMemory}

-- one more entry at the end
pub entries_last : (ms : Members) (name : Text) (d : Data) (es : List Entry) (e : Entry) → entries_of ms ≡ Some es
    → entry_of name d ≡ Some e → entries_of (with_last ms name d) ≡ Some (es ++ e ∷ [])
entries_last no_members name d [] e is one = rw one
entries_last no_members name d (x ∷ es) e is one = cc
entries_last (member k x ms) name d es e is one =
    go (entry_of k x) (entries_of ms) refl (λ rest same. entries_last ms name d rest e same one) is
  where
    go : (a : Option Entry) (o : Option (List Entry)) → entries_of ms ≡ o
        → ((rest : List Entry) → entries_of ms ≡ Some rest
        → entries_of (with_last ms name d) ≡ Some (rest ++ e ∷ []))
        → both a o ≡ Some es
        → both a (entries_of (with_last ms name d)) ≡ Some (es ++ e ∷ [])
    go None o same more whole = cc
    go (Some a) None same more whole = cc
    go (Some a) (Some rest) same more whole =
        let parts : a ∷ rest ≡ es = cc in
        rw (← parts, more rest same) refl

-- an entry of a map is one of its members
pub has_entry : (done rest : List Held) (e : Held) → Has (string_bytes e.0) (view e.1) (members_view (done ++ e ∷ rest))
has_entry [] rest e = inl (refl, refl)
has_entry (d ∷ done) rest e = inr (has_entry done rest e)

-- a table with an entry that is refused is refused for it
pub refused_for : (read : Members) (name : Text) (d : Data) (fault : EntriesFault) → Has name d read
    → RefusesEntry name d fault → RefusesTable read fault
refused_for read name d (NotToml error) has why = absurd why
refused_for read name d (NotAName key) has why = rw why.0 (d, has, why.1)
refused_for read name d (NotAValue key) has why = rw why.0 (d, has, why.1)
refused_for read name d OutOfMemory has why = tt
