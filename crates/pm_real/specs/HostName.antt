-- What a host name may be where it becomes a part of names in maildirs.
use Rattle.std.specs.Prelude.{ℕ, Bool, List, length, not, ◌&&◌, ◌==◌, nat_le}
use Rattle.std.specs.List.{list_all}

-- no control character, and no colon, after which readers of a maildir look for flags
abbrev pub is_host_byte : ℕ → Bool
is_host_byte byte = nat_le 32 byte && (not (byte == 127) && not (byte == 58))

-- at most 200 bytes, each of which may stand in it
abbrev pub is_host_name : List ℕ → Bool
is_host_name name = nat_le (length name) 200 && list_all (λ byte. is_host_byte byte) name
