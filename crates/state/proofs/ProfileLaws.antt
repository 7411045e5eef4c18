-- An image of either profile has the 60 bytes that document 01 names.
use Rattle.std.proofs.Common.{◌≤◌, arith}
use Rattle.state.specs.declared.Profile.{Profile}
use Rattle.state.specs.declared.Profile.TheVariants.{Ds2781, Ds2775}
use Rattle.state.specs.State.{image_size_of}

pub sixty : (f : Profile) → 60 ≤ image_size_of f
sixty Ds2781 = omega arith
sixty Ds2775 = omega arith
