use Rattle.std.proofs.Common.{rules}
use Rattle.phrase_tokens.specs.View.{tokens_of}
use Rattle.uecp_phrases.specs.declared.head.Head.TheVariants as head
use Rattle.uecp_phrases.specs.Stops.{Told, IsSwitched, IsEnd}
use Rattle.uecp_phrases.proofs.Behind.{music_none, speech_none}
use Rattle.uecp_phrases.proofs.Stopping.{same_stop}
use Rattle.uecp_phrases.proofs.Switching.{ta_told, tp_told}
use Rattle.uecp_phrases.proofs.Telling.{stop_told}
use Rattle.uecp_phrases.proofs.told.told.Goals as goal

pub returns-in_err-music-in-Music-clause-err : goal.returns-in_err-music-in-Music-clause-err
returns-in_err-music-in-Music-clause-err c =
    let stop = c.in_err-music-in-Music.field-0.0 in
    let tokens = tokens_of c.args.tokens.now in
    stop_told c.from_residual-in_err-music-in-Music.result stop c.args.region c.args.head head.Music tokens
    c.in-Music.is (search rules)
    (same_stop c.args.region (Told c.args.region head.Music) IsEnd tokens stop.what stop.left (music_none c.args.region)
    (c.in_err-music-in-Music.ensures.err c.args.region))

pub returns-in_err-music-in-Speech-clause-err : goal.returns-in_err-music-in-Speech-clause-err
returns-in_err-music-in-Speech-clause-err c =
    let stop = c.in_err-music-in-Speech.field-0.0 in
    let tokens = tokens_of c.args.tokens.now in
    stop_told c.from_residual-in_err-music-in-Speech.result stop c.args.region c.args.head head.Speech tokens
    c.in-Speech.is (search rules)
    (same_stop c.args.region (Told c.args.region head.Speech) IsEnd tokens stop.what stop.left
    (speech_none c.args.region) (c.in_err-music-in-Speech.ensures.err c.args.region))

pub returns-in_err-switched-in-Ta-clause-err : goal.returns-in_err-switched-in-Ta-clause-err
returns-in_err-switched-in-Ta-clause-err c =
    let stop = c.in_err-switched-in-Ta.field-0.0 in
    let tokens = tokens_of c.args.tokens.now in
    stop_told c.from_residual-in_err-switched-in-Ta.result stop c.args.region c.args.head head.Ta tokens
    c.in-Ta.is (search rules)
    (same_stop c.args.region (Told c.args.region head.Ta) IsSwitched tokens stop.what stop.left (ta_told c.args.region)
    (c.in_err-switched-in-Ta.ensures.err c.args.region))

pub returns-in_err-switched-in-Tp-clause-err : goal.returns-in_err-switched-in-Tp-clause-err
returns-in_err-switched-in-Tp-clause-err c =
    let stop = c.in_err-switched-in-Tp.field-0.0 in
    let tokens = tokens_of c.args.tokens.now in
    stop_told c.from_residual-in_err-switched-in-Tp.result stop c.args.region c.args.head head.Tp tokens
    c.in-Tp.is (search rules)
    (same_stop c.args.region (Told c.args.region head.Tp) IsSwitched tokens stop.what stop.left (tp_told c.args.region)
    (c.in_err-switched-in-Tp.ensures.err c.args.region))
