use Rattle.std.proofs.Common.{◌≡◌, Bool, true, false, not, List, ℕ, Some, None, Option, refl, sym, ap, ◌∙◌}
use Rattle.std.specs.Prelude.{is_some}
use Rattle.std.proofs.lemmas.Option.{same_Some}
use Rattle.toml.specs.Data.{Data, Members, get_member}
use Rattle.toml.specs.View.{view, members_view}
use Rattle.toml.proofs.Views.{view-lookup}
use Rattle.option_files.proofs.Joined.{there}
use Rattle.option_files.proofs.place.is_without.Goals as goal

absent : (o : Option Data) → is_some o ≡ false → o ≡ None
absent None e = refl
absent (Some x) e = cc

unfound : (o : Option Data) → o ≡ None → is_some o ≡ false
unfound o e = rw e refl

negated : (b : Bool) → not b ≡ true → b ≡ false
negated true e = cc
negated false e = refl

pub returns-in-Ok : goal.returns-in-Ok
returns-in-Ok c =
    let read : Members = members_view c.in-Ok.table.entries in
    let key : List ℕ = c.args.name.now in
    let found : is_some (get_member key read) ≡ c.contains_key.result =
    ap is_some (sym (view-lookup key c.in-Ok.table.entries)) ∙ there view _ ∙ sym c.contains_key.ensures in (
      λ without. record {
        is_text = c.in-Ok.ensures.ok.0;
        read = read;
        is_read = c.in-Ok.ensures.ok.1;
        none = absent (get_member key read) (found ∙ negated c.contains_key.result without);
      },
      λ lacks.
          let same : lacks.read ≡ read = same_Some _ _ (sym lacks.is_read ∙ c.in-Ok.ensures.ok.1) in
          ap not (sym found ∙ unfound (get_member key read) (ap (get_member key) (sym same) ∙ lacks.none)),
    )
