-- Links and doors over TCP as contracts see them: by their counts alone.
use Rattle.std.specs.Prelude.{ℕ}
use Rattle.desk_doors.specs.declared.tcp_door.TcpDoor.{TcpDoor}
use Rattle.desk_doors.specs.declared.tcp_link.TcpLink.{TcpLink}

-- how many reads failed
abbrev pub stream_read_failures : TcpLink → ℕ
stream_read_failures link = link.reads_failed

-- how many writes failed
abbrev pub stream_write_failures : TcpLink → ℕ
stream_write_failures link = link.writes_failed

-- how many accepts failed
abbrev pub accept_failures : TcpDoor → ℕ
accept_failures door = door.failed

-- how many links were accepted and not given back
abbrev pub links_out : TcpDoor → ℕ
links_out door = door.out
