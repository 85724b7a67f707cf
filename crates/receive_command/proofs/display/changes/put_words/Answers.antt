use Rattle.std.proofs.Common.{rules, ◌≡◌, false, is_some}
use Rattle.receive_command.specs.DisplayView.{elements_in}
use Rattle.receive_command.proofs.Telling.{told_in_words}
use Rattle.receive_command.proofs.display.changes.put_words.Goals as goal

pub returns : goal.returns
returns g c =
    let none : c.is_empty.result ≡ false = search rules in
    let time = c.put_time.ensures in
    told_in_words c.args.region (is_some c.args.clock) (elements_in c.args.news.now) time.0 c.args.output.now
    c.put_time.new.output c.put_news.new.output (c.is_empty.ensures.some none) time.1 time.2 c.put_news.ensures
