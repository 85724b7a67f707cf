use Rattle.std.proofs.Common.{map, take, string_bytes, arith}
use Rattle.option_files.specs.Words.{words_beside}
use Rattle.option_files.specs.Entries.{entry_view}
use Rattle.option_files.proofs.Joined.{all_joined, beside_more}
use Rattle.option_files.proofs.joined_words.words_with.Goals as goal

pub loop-entry-preserved : goal.loop-entry-preserved
loop-entry-preserved c =
    let words = map string_bytes c.args.words.now in
    beside_more words (map string_bytes (take 2 c.args.words.now))
    (map string_bytes c.loop-entry.all.items) (map string_bytes c.push_entry.new.all.items) c.args.entries.now
    c.loop-entry.entry-index c.entry-item.result (omega arith) c.entry-item.is c.loop-entry.invariant
    c.in_ok-push_entry.ensures

pub returns : goal.returns
returns c =
    let words = map string_bytes c.args.words.now in
    all_joined c.args.words.now c.loop-word-2.word-index c.behind_names-word-items.result.now
    (map string_bytes c.loop-word-2.all.items) (words_beside words (map entry_view c.args.entries.now))
    c.behind_names-word-items.ensures c.loop-word-2-test.false c.loop-word-2.invariant
