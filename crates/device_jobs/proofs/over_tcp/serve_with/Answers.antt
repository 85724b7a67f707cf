use Rattle.std.proofs.Common.{◌≡◌, inl, sym, ap, ◌∙◌, subst}
use Rattle.device_edges.specs.Place.{Listens}
use Rattle.device_edges.specs.Screen.{Screening}
use Rattle.device_jobs.specs.OverTcp.{IsPlaceOf}
use Rattle.device_jobs.proofs.over_tcp.serve_with.Goals as goal

pub returns-then-is_empty-clause-serves : goal.returns-then-is_empty-clause-serves
returns-then-is_empty-clause-serves g c = λ none.
    let same : c.new-screening.result.connect ≡ c.args.begun.accepting =
    ap (λ (s : Screening Listens). s.connect) c.new-screening.ensures ∙ c.new.ensures in
    inl (
      c.new-screening.result,
      c.serve_told.new.connect,
      (
        subst (λ (l : Listens). IsPlaceOf c.args.job.now l.place) (sym same) c.requires.place,
        ap (λ (l : Listens). l.idle) same ∙ c.requires.idle,
        ap (λ (l : Listens). l.notice.is_told) same ∙ c.requires.unsaid,
        ap (λ (s : Screening Listens). s.notice.is_told) c.new-screening.ensures,
      ),
      c.serve_told.ensures.serves,
    )
