use Rattle.std.proofs.Common.{rules, ◌<◌, ◌≤◌, length}
use Rattle.titles.specs.Fitting.{AreFitted}
use Rattle.titles.proofs.Leading.{fitted_end, fitted_on}
use Rattle.titles.proofs.fitting.put_all.Goals as goal

pub loop-character-preserved : goal.loop-character-preserved
loop-character-preserved c =
    let lt : c.loop-character.character-index < length c.args.characters.now = search rules in
    fitted_on c.args.characters.now c.loop-character.character-index c.character-item.result
    (AreFitted c.args.characters.now) c.args.text.now.items c.loop-character.text.items c.put_fitted.new.text.items lt
    c.character-item.is c.loop-character.invariant c.in_ok-put_fitted.ensures

pub returns : goal.returns
returns c =
    let all : length c.args.characters.now ≤ c.loop-character.character-index = search rules in
    fitted_end c.args.characters.now c.loop-character.character-index c.args.text.now.items
    c.loop-character.text.items all c.loop-character.invariant
