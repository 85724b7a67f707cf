use Rattle.std.proofs.Common.{string_bytes, rules, arith, ◌≡◌, ◌∷◌, ◌++◌, [], Err, map, Some, sym, ap, ◌∙◌}
use Rattle.std.proofs.Common.{append_assoc, subst}
use Rattle.std.proofs.lemmas.Grind.{common_steps}
use Rattle.std.proofs.lemmas.List.{map-append}
use Rattle.toml.specs.View.{members_view, view}
use Rattle.toml.proofs.Views.{Entry, members_view-last}
use Rattle.option_files.specs.Entries.{entries_of, entry_of, entry_view, Has, RefusesEntry}
use Rattle.option_files.proofs.Members.{entries_last, has_entry, refused_for}
use Rattle.option_files.proofs.entries.entries_in.Goals as goal

pub returns-in_err-entry_of-clause-refused : goal.returns-in_err-entry_of-clause-refused
returns-in_err-entry_of-clause-refused c =
    let (done, whole, sofar) = c.loop-name.invariant in
    let e : Entry = (c.in-Some.name.now, c.in-Some.value.now) in
    let iter : c.loop-name.name-iterator ≡ e ∷ c.next.new.self = grind (arith, common_steps) in
    let all = whole ∙ ap (λ t. done ++ t) iter in
    let err : c.from_residual.result ≡ Err c.in_err-entry_of.field-0.0 = search rules in
    let key = string_bytes c.in-Some.name.now in
    let value = view c.in-Some.value.now in
    let has : Has key value (members_view c.args.table.now.entries) =
    subst (λ es. Has key value (members_view es)) (sym all) (has_entry done c.next.new.self e) in
    rw err (refused_for (members_view c.args.table.now.entries) key value c.in_err-entry_of.field-0.0 has
    (subst (λ name. RefusesEntry name value c.in_err-entry_of.field-0.0) c.as_str.ensures.value
    c.in_err-entry_of.ensures.refused))

pub loop-name-preserved : goal.loop-name-preserved
loop-name-preserved c =
    let (done, whole, sofar) = c.loop-name.invariant in
    let e : Entry = (c.in-Some.name.now, c.in-Some.value.now) in
    let iter : c.loop-name.name-iterator ≡ e ∷ c.next.new.self = grind (arith, common_steps) in
    let all = whole ∙ ap (λ t. done ++ t) iter ∙ sym (append_assoc done (e ∷ []) c.next.new.self) in
    let one : entry_of (string_bytes c.in-Some.name.now) (view c.in-Some.value.now)
    ≡ Some (entry_view c.in_ok-entry_of.field-0) =
    subst (λ name. entry_of name (view c.in-Some.value.now) ≡ Some (entry_view c.in_ok-entry_of.field-0))
    c.as_str.ensures.value c.in_ok-entry_of.ensures.entry in (
      done ++ e ∷ [],
      all,
      ap entries_of (members_view-last done c.in-Some.name.now c.in-Some.value.now)
          ∙ entries_last (members_view done) _ _ _ _ sofar one
          ∙ ap Some (sym (ap (map entry_view) c.in_ok-push.ensures.items
          ∙ map-append entry_view c.loop-name.entries.items (c.in_ok-entry_of.field-0 ∷ []))),
    )
