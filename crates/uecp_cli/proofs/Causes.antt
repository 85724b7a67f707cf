-- Why no connection could be made, as it is said where that is asked for.
use Rattle.std.proofs.Common.{◌≡◌, ℕ, Bool, true, false, List, Option, refl}
use Rattle.uecp_net.specs.declared.tcp.DialFault.{DialFault}
use Rattle.conformance_command.specs.Dialling.{SaysUnreached}
use Rattle.uecp_cli.specs.Kept.{SaysWhereUnreached}
use Rattle.notices.specs.Told.{Told}

pub cause : (verbose : Bool) (host host' : List ℕ) (port : ℕ) (failed failed' : Option DialFault) (told told' : Told)
    → verbose ≡ true → host' ≡ host → failed' ≡ failed → SaysUnreached host' port failed' told told'
    → SaysWhereUnreached verbose host port failed told told'
cause true host host' port failed failed' told told' is same why says = rw (same, why) at says
cause false host host' port failed failed' told told' is same why says =
    absurd (let bad : false ≡ true = is in cc)

pub no_cause : (verbose : Bool) (host : List ℕ) (port : ℕ) (failed : Option DialFault) (told : Told) → verbose ≡ false
    → SaysWhereUnreached verbose host port failed told told
no_cause false host port failed told is = refl
no_cause true host port failed told is = absurd (let bad : true ≡ false = is in cc)
