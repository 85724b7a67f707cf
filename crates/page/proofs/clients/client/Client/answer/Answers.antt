use Rattle.std.proofs.Common.{inl}
use Rattle.page.specs.declared.clients.request.Route.TheVariants.{Page, NotFound, OtherMethod}
use Rattle.page.specs.declared.clients.request.Route.TheVariants.{Foreign}
use Rattle.page.specs.ClientView.{source_of, standing_of}
use Rattle.page.proofs.Told.{answered_as, with_body}
use Rattle.page.proofs.clients.client.Client.answer.Goals as goal

pub returns-in-Page-clause-replies : goal.returns-in-Page-clause-replies
returns-in-Page-clause-replies c =
    answered_as (source_of c.args.site.now) c.args.self.now.server _ Page _ (standing_of c.args.self.now)
    (standing_of c.whole.new.self) c.in-Page.is c.whole.ensures.closes
    (inl (with_body _ _ _ _ _ _ c.whole.ensures.told c.as_bytes.ensures.value))

pub returns-in-NotFound-clause-replies : goal.returns-in-NotFound-clause-replies
returns-in-NotFound-clause-replies c =
    answered_as (source_of c.args.site.now) c.args.self.now.server _ NotFound _ (standing_of c.args.self.now)
    (standing_of c.whole-in-NotFound.new.self) c.in-NotFound.is c.whole-in-NotFound.ensures.closes
    (inl c.whole-in-NotFound.ensures.told)

pub returns-in-OtherMethod-clause-replies : goal.returns-in-OtherMethod-clause-replies
returns-in-OtherMethod-clause-replies c =
    answered_as (source_of c.args.site.now) c.args.self.now.server _ OtherMethod _ (standing_of c.args.self.now)
    (standing_of c.whole-in-OtherMethod.new.self) c.in-OtherMethod.is c.whole-in-OtherMethod.ensures.closes
    (inl c.whole-in-OtherMethod.ensures.told)

pub returns-in-Foreign-clause-replies : goal.returns-in-Foreign-clause-replies
returns-in-Foreign-clause-replies c =
    answered_as (source_of c.args.site.now) c.args.self.now.server _ Foreign _ (standing_of c.args.self.now)
    (standing_of c.whole-in-Foreign.new.self) c.in-Foreign.is c.whole-in-Foreign.ensures.closes
    (inl c.whole-in-Foreign.ensures.told)
