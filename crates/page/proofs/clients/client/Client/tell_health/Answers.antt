use Rattle.std.proofs.Common.{◌∙◌, inl}
use Rattle.page.specs.StateView.{state_of}
use Rattle.page.proofs.Told.{told_well, told_stale}
use Rattle.page.proofs.clients.client.Client.tell_health.Goals as goal

pub returns-then-not-has_stale-clause-told : goal.returns-then-not-has_stale-clause-told
returns-then-not-has_stale-clause-told c =
    inl (told_well c.args.site.now.moment (state_of c.args.site.now.page.now).lines _ _ _ _ c.has_stale.ensures
    c.if-not-has_stale.true c.whole.ensures.told)

pub returns-in-Ok-clause-told : goal.returns-in-Ok-clause-told
returns-in-Ok-clause-told c =
    inl (told_stale c.args.site.now.moment (state_of c.args.site.now.page.now).lines _ _ _ _ _ c.has_stale.ensures
    c.if-not-has_stale.false (c.as_slice.ensures.value ∙ c.in-Ok.ensures) c.whole-in-Ok.ensures.told)
