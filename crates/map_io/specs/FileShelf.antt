-- What a shelf over files shows of itself. This project's own.
use Rattle.map_io.specs.declared.file_shelf.FileShelf.{FileShelf}

-- what opens its files
abbrev pub system_of : {S : Type 0} → FileShelf S → S
system_of shelf = shelf.system
