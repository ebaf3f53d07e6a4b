-- A command as it was read.
use Rattle.desk_script.specs.declared.command.Command.{Command}
use Rattle.desk_script.specs.Commands.{Said}

abbrev pub said_of : Command → Said
said_of command = record { action = command.action; name = command.name.now; job_line = command.job_line.now }
