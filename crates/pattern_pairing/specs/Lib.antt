-- `First` has the definitions; `Disk` that a u with a t lies in the unit disks; `Search` what each level of the search promises.
pub mod First
pub mod Disk
pub mod Search
