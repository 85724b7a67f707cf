-- What is told of where the system was asked for connections.
use Rattle.std.proofs.Common.{◌≡◌, ◌+◌, ℕ, Bool, refl, sym, subst, inr}
use Rattle.std.proofs.Math.Numerals.{add-one}
use Rattle.device_edges.specs.Screen.{Notice}
use Rattle.device_edges.specs.Place.{Listens, TellsRoom, Asks, AsksTimes}

-- it was asked
pub asked_so : (lacks : Bool) (l0 l : Listens) (notice : Notice) → l0 ≡ l → TellsRoom lacks l0.notice notice
    → Asks l (record l0 { notice = notice })
asked_so lacks l0 l notice is tells =
    subst (λ (x : Listens). Asks x (record l0 { notice = notice })) is (inr (lacks, tells, refl))

-- one more time
pub asks_more : (times : ℕ) (l between l' : Listens) → AsksTimes times l between → Asks between l'
    → AsksTimes (times + 1) l l'
asks_more times l between l' before asks =
    subst (λ (n : ℕ). AsksTimes n l l') (sym (add-one times)) (between, before, asks)

-- a connection came, or none is to be had
pub comes_so : (times : ℕ) (l between l' : Listens) → AsksTimes times l between → Asks between l'
    → (n : ℕ) × AsksTimes n l l'
comes_so times l between l' before asks = (times + 1, asks_more times l between l' before asks)
