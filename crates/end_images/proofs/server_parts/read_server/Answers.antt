use Rattle.std.proofs.Common.{◌≡◌, Option, Some, None, ap, sym, subst, ◌∙◌}
use Rattle.end_images.specs.declared.server_parts.KeptServer.{KeptServer}
use Rattle.end_images.specs.Images.{server_kind, server_content, server_image}
use Rattle.end_images.specs.Reading.{GivesBack, restarted_kept}
use Rattle.end_images.proofs.Apart.{some_same}
use Rattle.end_images.proofs.Sealed.{content_same}
use Rattle.end_images.proofs.Unread.{server_told}
use Rattle.end_images.proofs.server_parts.read_server.Goals as goal

pub returns-in-None-clause-complete : goal.returns-in-None-clause-complete
returns-in-None-clause-complete c = λ k is image.
    let content = content_same server_kind c.args.bytes.now c.in_ok-content.content.now
    (server_content k.joined k.taken k.server) c.in_ok-content.ensures.content image in
    let none : ◌≡◌ {A = Option KeptServer} None (Some (restarted_kept k)) = c.in-None.ensures.complete k is content in
    absurd (cc)

pub returns-in-Some-clause-read : goal.returns-in-Some-clause-read
returns-in-Some-clause-read c =
    server_told c.checked.result c.in-Some.kept c.args.bytes.now c.in_ok-content.content.now
    c.in_ok-content.ensures.content c.checked.ensures.same c.checked.ensures.image c.checked.ensures.fault
    c.in-Some.ensures.started

pub returns-in-Some-clause-complete : goal.returns-in-Some-clause-complete
returns-in-Some-clause-complete c = λ k is image.
    let content = content_same server_kind c.args.bytes.now c.in_ok-content.content.now
    (server_content k.joined k.taken k.server) c.in_ok-content.ensures.content image in
    let same : c.in-Some.kept ≡ restarted_kept k =
    some_same c.in-Some.kept (restarted_kept k) (c.in-Some.ensures.complete k is content) in
    subst (GivesBack c.checked.result) same
    (c.checked.ensures.complete
    (image ∙ ap (λ (x : KeptServer). server_image x.joined x.taken x.server) (sym same)))
