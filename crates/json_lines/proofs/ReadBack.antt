-- The text of a value is read as that value.
use Rattle.std.proofs.Common.{◌≡◌, suc, max, ◌≤◌, Some, refl, sym, ap, ap₂, ◌∙◌, subst}
use Rattle.json.specs.Json as json
use Rattle.json.specs.Tree as tree
use Rattle.json.proofs.Printed.Decimals.{IsNumber-decimal}
use Rattle.json.proofs.Printed.Trees.{document-print}
use Rattle.serde_json.specs.Data.{Data, null, boolean, number, string, array, object, unsigned, negative, float}
use Rattle.serde_json.specs.Data.{Items, no_items, item, Members, no_members, member, depth, items_depth, members_depth}
use Rattle.serde_json.specs.Written.{outline, items_outline, members_outline, compact_text}
use Rattle.serde_json.proofs.Texts.{print-outline}
use Rattle.json_lines.specs.Laws.{HasCounts, ItemsHaveCounts, MembersHaveCounts}

mutual
  has_numbers : (d : Data) → HasCounts d → tree.HasNumbers (outline d)
  has_numbers null h = tt
  has_numbers (boolean b) h = tt
  has_numbers (number (unsigned n)) h = IsNumber-decimal n h
  has_numbers (number (negative z)) h = absurd h
  has_numbers (number (float x)) h = absurd h
  has_numbers (string s) h = tt
  has_numbers (array ds) h = items_have ds h
  has_numbers (object ms) h = members_have ms h

  items_have : (ds : Items) → ItemsHaveCounts ds → tree.ItemsHaveNumbers (items_outline ds)
  items_have no_items h = tt
  items_have (item d ds) h = (has_numbers d h.0, items_have ds h.1)

  members_have : (ms : Members) → MembersHaveCounts ms → tree.MembersHaveNumbers (members_outline ms)
  members_have no_members h = tt
  members_have (member k d ms) h = (has_numbers d h.0, members_have ms h.1)

mutual
  same_depth : (d : Data) → tree.depth (outline d) ≡ depth d
  same_depth null = refl
  same_depth (boolean b) = refl
  same_depth (number n) = refl
  same_depth (string s) = refl
  same_depth (array ds) = ap (λ n. suc n) (items_same ds)
  same_depth (object ms) = ap (λ n. suc n) (members_same ms)

  items_same : (ds : Items) → tree.items_depth (items_outline ds) ≡ items_depth ds
  items_same no_items = refl
  items_same (item d ds) = ap₂ max (same_depth d) (items_same ds)

  members_same : (ms : Members) → tree.members_depth (members_outline ms) ≡ members_depth ms
  members_same no_members = refl
  members_same (member k d ms) = ap₂ max (same_depth d) (members_same ms)

pub read_back : (value : Data) → HasCounts value → depth value ≤ json.max_depth
    → json.document (compact_text value) ≡ Some (outline value)
read_back value counts shallow =
    ap json.document (sym (print-outline value))
    ∙ document-print (outline value) (has_numbers value counts)
    (subst (λ n. n ≤ json.max_depth) (sym (same_depth value)) shallow)
