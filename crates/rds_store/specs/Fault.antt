-- The numbers and names of the faults, in the order in which they are looked for.
use Rattle.std.specs.Prelude.{ℕ, List, codes}
use Rattle.rds_store.specs.declared.fault.StoreFault.{StoreFault}
use Rattle.rds_store.specs.declared.fault.StoreFault.TheVariants.{SetCount, ServiceCount, ServiceZero, ServiceTwice}
use Rattle.rds_store.specs.declared.fault.StoreFault.TheVariants.{OutOfMemory}

-- The number of a fault, from 1 in the order in which they are looked for. (profile)
abbrev pub number_of : StoreFault → ℕ
number_of SetCount = 1
number_of ServiceCount = 2
number_of ServiceZero = 3
number_of ServiceTwice = 4
number_of OutOfMemory = 5

-- The name of a fault, as the program prints it. (profile)
abbrev pub name_of : StoreFault → List ℕ
name_of SetCount = codes "SetCount"
name_of ServiceCount = codes "ServiceCount"
name_of ServiceZero = codes "ServiceZero"
name_of ServiceTwice = codes "ServiceTwice"
name_of OutOfMemory = codes "OutOfMemory"
