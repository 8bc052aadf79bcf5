-- What the program says of itself.
use Rattle.std.specs.Prelude.{ℕ, List, ◌++◌, codes}
use Rattle.fly_app.specs.Printing.{newline}

abbrev pub version_text : List ℕ
version_text = codes "flyte 0.1.0" ++ newline

abbrev pub help_text : List ℕ
help_text =
    codes "flyte compiles and runs workflows of typed tasks." ++ newline
    ++ newline
    ++ codes "  flyte compile BUNDLE   prints the closure of the bundle in the file BUNDLE" ++ newline
    ++ codes "  flyte run BUNDLE SUBMISSIONS JOURNAL [--lag N]" ++ newline
    ++ codes "                         runs the bundle with each of the submissions, appends each step to the file JOURNAL," ++ newline
    ++ codes "                         which is absent or empty before, and prints a report; the worker reads up to N" ++ newline
    ++ codes "                         versions back, 0 to 16, and 0 where that isn't given" ++ newline
    ++ codes "  flyte make NUMBER      runs a generated workflow of NUMBER nodes, 1 to 1024, in memory, and prints how it ended" ++ newline
    ++ codes "  flyte --help           prints this text" ++ newline
    ++ codes "  flyte --version        prints the name and the version" ++ newline
    ++ newline
    ++ codes "Statuses:" ++ newline
    ++ codes "  0  the answer was printed, and each execution of a run has succeeded" ++ newline
    ++ codes "  1  an execution of a run has failed" ++ newline
    ++ codes "  2  the words are no command: usage: word K, the number of the first wrong word, from 0" ++ newline
    ++ codes "  3  a file is refused: WHAT: KIND PLACE, the first fault of the document, WHAT being bundle, submissions or" ++ newline
    ++ codes "     journal; or for each fault of what it says a line, WHAT: CODE PLACE, with what more there is to say" ++ newline
    ++ codes "  4  a file is absent or could not be read" ++ newline
    ++ codes "  5  the journal or the answer could not be written" ++ newline
    ++ codes "  6  there was no memory" ++ newline
