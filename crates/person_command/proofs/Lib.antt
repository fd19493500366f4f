mod PersonWords
