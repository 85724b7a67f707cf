use Rattle.std.proofs.Common.{[], ◌∷◌, sym, subst, ◌∙◌}
use Rattle.uecp_text.specs.Written.{Adds}
use Rattle.end_images.proofs.Walks.{pair_added}
use Rattle.end_images.proofs.encoder_image.add_pair.Goals as goal

pub returns-in-Some : goal.returns-in-Some
returns-in-Some c = λ before older.
    pair_added before c.args.image.now c.add.new.self c.args.ring.now c.args.place c.in-Some.counter c.in-Some.code
    (sym c.pair.ensures.value ∙ c.in-Some.is) older
    (subst (λ b. Adds c.args.image.now c.add.new.self (c.in-Some.counter ∷ b ∷ [])) c.byte.ensures.value c.add.ensures)
