use Rattle.std.proofs.Common.{◌≡◌, inl, inr, refl, rules}
use Rattle.page.specs.ClientView.{standing_of, source_of}
use Rattle.page.specs.Answers.{Replies}
use Rattle.page.specs.Fresh.{fresh}
use Rattle.page.proofs.Heard.{heard, refused}
use Rattle.page.proofs.clients.client.Client.hear.Goals as goal

pub returns-in-Head-clause-hears : goal.returns-in-Head-clause-hears
returns-in-Head-clause-hears c =
    let is_fresh : c.args.self.now.server ≡ fresh = search rules in
    let told = c.answer.ensures.replies in
    let replies : Replies (source_of c.args.site.now) c.read.new.self c.of-asked.result.route c.of-asked.result.last
    (standing_of c.args.self.now) (standing_of c.answer.new.self) = record {
      tells = told.tells;
      phase = told.phase;
      opened = told.opened;
    } in
    inr (inl (heard (source_of c.args.site.now) _ _ _ _ _ _ _ _ _ _ (standing_of c.args.self.now)
    (standing_of c.answer.new.self) is_fresh c.in-Ok.ensures.ok c.in-Head.is c.as_slice-input.ensures.value
    c.of-asked.ensures.route c.of-asked.ensures.last replies))

pub returns-in-Err-clause-hears : goal.returns-in-Err-clause-hears
returns-in-Err-clause-hears c =
    let is_fresh : c.args.self.now.server ≡ fresh = search rules in
    inl (inr (refused c.args.self.now.server c.read.new.self _ _ _ _ _ (standing_of c.args.self.now)
    (standing_of c.refuse.new.self) is_fresh c.in-Err.ensures.err c.in-Err.ensures.failed
    c.as_slice-input.ensures.value refl c.status.ensures c.refuse.ensures.closes c.refuse.ensures.told))
