-- Each notice is said once.
use Rattle.std.proofs.Common.{◌≡◌, true, List, [], ◌∷◌, Some, refl, ap}
use Rattle.live_edges.specs.Said.{Said, IsNews, noted, noted_all, SameWords, AllSameWords}
use Rattle.live_edges.specs.declared.said.Notice.{Notice}
use Rattle.live_edges.specs.declared.said.Notice.TheVariants.{There, Lost, Away}

-- it was said
abbrev Stands : Said → Notice → Type 0
Stands s There = s.there ≡ true
Stands s Lost = s.lost ≡ true
Stands s (Away why) = s.away ≡ Some why

stands_at_once : (s : Said) (n : Notice) → Stands (noted s n) n
stands_at_once s There = refl
stands_at_once s Lost = refl
stands_at_once s (Away why) = refl

stands_on : (s : Said) (n m : Notice) → SameWords n m → Stands s n → Stands (noted s m) n
stands_on s There There same stands = refl
stands_on s There Lost same stands = stands
stands_on s There (Away why) same stands = stands
stands_on s Lost There same stands = stands
stands_on s Lost Lost same stands = refl
stands_on s Lost (Away why) same stands = stands
stands_on s (Away why) There same stands = stands
stands_on s (Away why) Lost same stands = stands
stands_on s (Away why) (Away other) same stands = ap (λ w. Some w) same

stands_after : (s : Said) (n : Notice) (ms : List Notice) → AllSameWords n ms → Stands s n → Stands (noted_all s ms) n
stands_after s n [] same stands = stands
stands_after s n (m ∷ ms) same stands =
    stands_after (noted s m) n ms same.1 (stands_on s n m same.0 stands)

no_news : (s : Said) (n : Notice) → Stands s n → IsNews s n → ⊥
no_news s There stands news = cc
no_news s Lost stands news = cc
no_news s (Away why) stands news = news stands

pub said_once_lem : (s : Said) (notice : Notice) (since : List Notice) → AllSameWords notice since
    → IsNews (noted_all (noted s notice) since) notice → ⊥
said_once_lem s notice since same =
    no_news (noted_all (noted s notice) since) notice
    (stands_after (noted s notice) notice since same (stands_at_once s notice))
