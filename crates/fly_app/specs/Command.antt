-- What a command that was read stands for.
use Rattle.fly_app.specs.declared.words.Command.{Command}
use Rattle.fly_app.specs.declared.words.Command.TheVariants as commands
use Rattle.fly_app.specs.Words.{Request, compile, make, help, version}

-- what the command asks for
abbrev pub request_of : Command → Request
request_of (commands.Compile path) = compile path.now
request_of (commands.Make count) = make count
request_of commands.Help = help
request_of commands.Version = version
