-- Whether one key matches.
use Rattle.std.specs.Prelude.{Bool, ◌==◌, bit_and}
use Rattle.app_data.specs.declared.value.Value.{Value}
use Rattle.app_data.specs.declared.value.Match.{Match}

-- whether a key is, under the mask, what is asked for
abbrev pub one_fits : Match → Value → Bool
one_fits m key = bit_and key.number m.mask == m.value
