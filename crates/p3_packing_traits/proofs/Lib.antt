mod UntilEnd
