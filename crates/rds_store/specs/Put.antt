-- What one element does to a store.
use Rattle.std.specs.Prelude.{ℕ, ◌==◌, Bool, map, if◌then◌else◌}
use Rattle.std.specs.Option.{option_map_or}
use Rattle.std.specs.FinMap.{entries, from_entries}
use Rattle.uecp_elements.specs.declared.code.Code.{Code}
use Rattle.uecp_elements.specs.declared.code.Code.TheVariants.{Applied}
use Rattle.uecp_elements.specs.Grammar.{Element, Select, Group}
use Rattle.rds_store.specs.Bits.{bits_4_to_0}
use Rattle.rds_store.specs.Value.{ServiceData, Data, Store}
use Rattle.rds_store.specs.Names.{address, names_place}
use Rattle.rds_store.specs.Content.{buffered, taken}
use Rattle.rds_store.specs.Refusals.{code_of}

-- Each place that passes the test takes the change, and the others stay.
abbrev pub change_where : (test : ℕ × ℕ → Bool) → (change : ServiceData → ServiceData) → Data → Data
change_where test change places =
    from_entries (map (λ e. (e.0, (if test e.0 then change e.1 else e.1))) (entries places))

-- Each place that the DSN and PSN of the element name takes the element's content. (SPB 490, data sets and programme
-- services)
abbrev pub stored_at : Store → Element → (dsn_psn : ℕ × ℕ) → Store
stored_at v e a = record v { places = change_where (names_place v a.0 a.1) (taken e) v.places }

-- What an element that is not refused leaves: selection of 00 keeps the current set and that of a number makes it
-- current; a group goes into the queue by its buffer rule; every other element is taken by the places that it names.
-- (SPB 490, data set select; groups: profile)
abbrev pub stored : Store → Element → Store
stored v (Select dsn) = if dsn == 0x00 then v else record v { current = dsn }
stored v (Group kind mode block3 block4) =
    record v {
      groups = buffered mode v.groups (record {
        kind = kind;
        bits = bits_4_to_0 mode;
        block3 = block3;
        block4 = block4;
      });
    }
stored v e = option_map_or (stored_at v e) (address e) v

-- A code but 00 leaves the store. (profile)
abbrev pub stored_on : Code → Store → Element → Store
stored_on Applied v e = stored v e
stored_on _ v e = v

-- The store after one element, and the code with which it is answered. (profile)
abbrev pub put : Store → Element → Store × Code
put v e = (stored_on (code_of v e) v e, code_of v e)
